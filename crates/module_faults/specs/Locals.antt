-- Faults that the words of an assignment show by themselves, and by what its names are assigned.
use Rattle.std.specs.Prelude.{ℕ, zero, suc, ◌+◌, ℤ, nat_eq, Bool, true, false, not, ◌||◌, List, [], ◌∷◌, ◌++◌, Option, None, Some, is_some}
use Rattle.osi_base.specs.Limits.{most_alternatives, most_type_levels}
use Rattle.notation_tokens.specs.declared.token.Located.{Located}
use Rattle.operation_notation.specs.Tree.{TypeTree, type_tree, PlainTree, integer, enumerated, octets, sequence_of, set_of, sequence, set, choice, named, PartTrees, no_parts, part}
use Rattle.operation_notation.specs.declared.module.Assignment.{Assignment}
use Rattle.operation_notation.specs.declared.module.Assigned.{Assigned}
use Rattle.operation_notation.specs.declared.module.Assigned.TheVariants as bodies
use Rattle.operation_notation.specs.declared.module.CodeText.{CodeText}
use Rattle.operation_notation.specs.declared.module.ItemText.{ItemText}
use Rattle.operation_notation.specs.declared.module.OpText.{OpText}
use Rattle.operation_notation.specs.declared.module.RangeText.{RangeText}
use Rattle.operation_notation.specs.declared.module.TagText.{TagText}
use Rattle.operation_notation.specs.declared.module.UseText.{UseText}
use Rattle.module_faults.specs.declared.kind.TableKind.{TableKind}
use Rattle.module_faults.specs.declared.kind.TableKind.TheVariants as kinds
use Rattle.module_faults.specs.declared.least.Found.{Found}
use Rattle.module_faults.specs.Least.{fault, at_name, if_so}
use Rattle.module_faults.specs.Names.{find, assigned, type_place}
use Rattle.module_faults.specs.Places.{is_bad_range, is_bad_size, is_bad_tag}
use Rattle.module_faults.specs.Met.{has_list, with_list, has_number, with_number, Codes, has_code, with_code}

-- ---- a type by itself

abbrev pub range_faults : Option RangeText → List Found
range_faults None = []
range_faults (Some range) = if_so (is_bad_range range) (fault range.line range.column kinds.BadRange)

abbrev pub size_faults : Option RangeText → List Found
size_faults None = []
size_faults (Some size) = if_so (is_bad_size size) (fault size.line size.column kinds.BadRange)

abbrev pub tag_faults : ℕ → ℕ → Option TagText → List Found
tag_faults line column None = []
tag_faults line column (Some tag) = if_so (is_bad_tag tag) (fault line column kinds.BadRange)

-- the alternative behind so many others
abbrev pub end_faults : ℕ → PartTrees → List Found
end_faults n no_parts = []
end_faults zero (part name of optional dflt more) = at_name name kinds.BadRange ∷ []
end_faults (suc n) (part name of optional dflt more) = end_faults n more

-- items whose name or number stands before (X.680 20.1, 20.4)
abbrev pub item_faults : List (List ℕ) → List ℤ → List ItemText → List Found
item_faults names numbers [] = []
item_faults names numbers (item ∷ more) =
    if_so (has_list names item.name.text || has_number numbers item.number) (at_name item.name kinds.DoubleName)
    ++ item_faults (with_list names item.name.text) (with_number numbers item.number) more

-- parts whose name stands before (X.680 25.4)
abbrev pub part_faults : List (List ℕ) → PartTrees → List Found
part_faults names no_parts = []
part_faults names (part name of optional dflt more) = if_so (has_list names name.text) (at_name name kinds.DoubleName) ++ part_faults (with_list names name.text) more

-- a Name that is assigned no type
abbrev pub name_faults : List Assignment → Located → List Found
name_faults all name = if_so (not (is_some (type_place all name.text))) (at_name name kinds.UnknownName)

-- ---- types in types

abbrev pub in_parts : (TypeTree → List Found) → PartTrees → List Found
in_parts inner no_parts = []
in_parts inner (part name of optional dflt more) = inner of ++ in_parts inner more

abbrev pub plain_faults : List Assignment → (TypeTree → List Found) → PlainTree → List Found
plain_faults all inner (integer range) = range_faults range
plain_faults all inner (octets size) = size_faults size
plain_faults all inner (enumerated items) = item_faults [] [] items
plain_faults all inner (sequence_of item) = inner item
plain_faults all inner (set_of item) = inner item
plain_faults all inner (sequence ps) = part_faults [] ps ++ in_parts inner ps
plain_faults all inner (set ps) = part_faults [] ps ++ in_parts inner ps
plain_faults all inner (choice ps) = end_faults most_alternatives ps ++ (part_faults [] ps ++ in_parts inner ps)
plain_faults all inner (named name) = name_faults all name
plain_faults all inner plain = []

abbrev pub over_type : List Assignment → (TypeTree → List Found) → TypeTree → List Found
over_type all inner (type_tree line column tag plain) = tag_faults line column tag ++ plain_faults all inner plain

-- Faults of a type and of those in it, at most so many levels deep; what reads as a module has types that stand in one another at
-- most 256 levels deep.
unfoldable pub type_faults : List Assignment → ℕ → TypeTree → List Found
type_faults all zero of = []
type_faults all (suc levels) of = over_type all (type_faults all levels) of

-- ---- names in ERRORS and LINKED

abbrev pub kind_at : Option TableKind → Located → List Found
kind_at None name = []
kind_at (Some kind) name = at_name name kind ∷ []

-- what is wrong with a name in ERRORS that is assigned so
abbrev pub no_error : Option Assigned → Option TableKind
no_error None = Some kinds.UnknownName
no_error (Some (bodies.Typed of)) = Some kinds.NotError
no_error (Some (bodies.Operation operation)) = Some kinds.NotError
no_error (Some (bodies.Error error)) = None

-- what is wrong with a name in LINKED
abbrev pub no_operation : Option Assigned → Option TableKind
no_operation None = Some kinds.UnknownName
no_operation (Some (bodies.Typed of)) = Some kinds.NotOperation
no_operation (Some (bodies.Operation operation)) = None
no_operation (Some (bodies.Error error)) = Some kinds.NotOperation

abbrev pub names_faults : (Option Assigned → Option TableKind) → List Assignment → List Located → List Found
names_faults wrong all [] = []
names_faults wrong all (name ∷ more) = kind_at (wrong (assigned all name.text)) name ++ names_faults wrong all more

-- ---- what is assigned

abbrev pub use_faults : List Assignment → Option UseText → List Found
use_faults all None = []
use_faults all (Some u) = type_faults all most_type_levels u.of

-- a result with a type where none is returned
abbrev pub contradiction : Bool → Option UseText → List Found
contradiction returns None = []
contradiction returns (Some u) = if_so (not returns) (fault u.line u.column kinds.Contradiction)

-- an operation or error without a code
abbrev pub no_code : Located → Option CodeText → List Found
no_code name code = if_so (not (is_some code)) (at_name name kinds.NoCode)

abbrev pub operation_faults : List Assignment → Located → OpText → List Found
operation_faults all name operation =
    use_faults all operation.argument
    ++ (use_faults all operation.result
    ++ (contradiction operation.returns operation.result
    ++ (names_faults no_error all operation.errors
    ++ (names_faults no_operation all operation.linked ++ no_code name operation.code))))

abbrev pub body_faults : List Assignment → Located → Assigned → List Found
body_faults all name (bodies.Typed of) = type_faults all most_type_levels of
body_faults all name (bodies.Operation operation) = operation_faults all name operation
body_faults all name (bodies.Error error) = use_faults all error.parameter ++ no_code name error.code

abbrev pub bodies_faults : List Assignment → List Assignment → List Found
bodies_faults all [] = []
bodies_faults all (a ∷ more) = body_faults all a.name a.body ++ bodies_faults all more

-- ---- what is assigned twice

abbrev pub is_at : ℕ → Option ℕ → Bool
is_at place None = false
is_at place (Some first) = nat_eq first place

-- assigned names that are assigned before, from a place on
abbrev pub double_names : List Assignment → ℕ → List Assignment → List Found
double_names all place [] = []
double_names all place (a ∷ more) = if_so (not (is_at place (find all a.name.text))) (at_name a.name kinds.DoubleName) ++ double_names all (place + 1) more

-- the code of an operation, or of an error
abbrev pub own_code : Bool → Assigned → Option CodeText
own_code false (bodies.Operation operation) = operation.code
own_code true (bodies.Error error) = error.code
own_code errors body = None

abbrev pub code_faults : Codes → Option CodeText → List Found
code_faults seen None = []
code_faults seen (Some code) = if_so (has_code seen code) (fault code.line code.column kinds.DoubleCode)

abbrev pub and_code : Codes → Option CodeText → Codes
and_code seen None = seen
and_code seen (Some code) = with_code seen code

-- codes that an earlier operation has, or an earlier error (X.880 8.2.11, 8.3.4)
abbrev pub double_codes : Bool → Codes → List Assignment → List Found
double_codes errors seen [] = []
double_codes errors seen (a ∷ more) = code_faults seen (own_code errors a.body) ++ double_codes errors (and_code seen (own_code errors a.body)) more
