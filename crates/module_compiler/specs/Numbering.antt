-- The rows of a module's types (X.680; the order of numbering is this project's): assignments are walked in the order of the text, and a
-- row is made when its type was walked whole, so inner types come first. A Name has the row of the type that stands behind it, which is
-- walked when it is first met.
use Rattle.std.specs.Prelude.{◌≡◌, Result, Ok, Err, ℕ, zero, suc, ℤ, pos, negsuc, Bool, true, false, not, ◌||◌, List, [], ◌∷◌, ◌++◌, map, length, Option, Some, None, option_map, slice_get, slice_set, if◌then◌else◌, nat_le, ◌*◌, ◌+◌}
use Rattle.std.specs.Str.{bytes_eq}
use Rattle.osi_base.specs.Limits.{most_32, most_octets, most_levels, most_signed}
use Rattle.notation_tokens.specs.declared.token.Located.{Located}
use Rattle.asn1_types.specs.declared.row.Item.{Item}
use Rattle.asn1_types.specs.declared.row.Part.{Part}
use Rattle.asn1_types.specs.declared.row.TypeId.{TypeId}
use Rattle.asn1_types.specs.declared.row.Class.{Class}
use Rattle.asn1_types.specs.declared.row.TypeRow.{TypeRow}
use Rattle.asn1_types.specs.declared.row.TypeRow.TheVariants as rows
use Rattle.asn1_types.specs.Numbered.{kind_numbered, class_numbered}
use Rattle.operation_notation.specs.Tree.{TypeTree, type_tree, PlainTree, boolean, null, integer, enumerated, octets, bits, object_id, text, sequence_of, set_of, sequence, set, choice, named, PartTrees, no_parts, part}
use Rattle.operation_notation.specs.declared.module.TagText.{TagText}
use Rattle.operation_notation.specs.declared.module.RangeText.{RangeText}
use Rattle.operation_notation.specs.declared.module.ItemText.{ItemText}
use Rattle.operation_notation.specs.declared.module.DfltText.{DfltText}
use Rattle.operation_notation.specs.declared.module.DfltValue.{DfltValue}
use Rattle.operation_notation.specs.declared.module.DfltValue.TheVariants as values
use Rattle.operation_notation.specs.declared.module.UseText.{UseText}
use Rattle.stub_tables.specs.declared.operation.Use.{Use}
use Rattle.module_compiler.specs.declared.fault.Halt.{Halt}
use Rattle.module_faults.specs.Names.{or_none, find, type_at}
use Rattle.module_compiler.specs.Scope.{Ground, behind}

-- the rows so far, and for each assignment the row of its type, once it has one
pub record NumberedRows : Type 0 where
  pub rows : List TypeRow
  pub given : List (Option TypeId)

-- what walking gives, and the rows that there are then; or nothing, where a type has no row
abbrev pub Walk : Type 0 → Type 0
Walk A = NumberedRows → Option (A × NumberedRows)

abbrev pub after : {A B : Type 0} → Option (A × NumberedRows) → (A → Walk B) → Option (B × NumberedRows)
after None f = None
after (Some p) f = f p.0 p.1

infixl 10 ◌>>=◌
abbrev pub ◌>>=◌ : {A B : Type 0} → (NumberedRows → Option (A × NumberedRows)) → (A → NumberedRows → Option (B × NumberedRows)) → NumberedRows → Option (B × NumberedRows)
(r >>= f) s = after (r s) f

abbrev pub give : {A : Type 0} → A → Walk A
give a s = Some (a, s)

abbrev pub none : {A : Type 0} → Walk A
none s = None

-- What a function returned, and the rows that it left, are what walking gives. Where it stops nothing is said of either.
abbrev pub Gives : {A : Type 0} → Result A Halt → NumberedRows → Option (A × NumberedRows) → Type 0
Gives (Ok a) s found = found ≡ Some (a, s)
Gives (Err e) s found = Unit {0}

-- a row behind the others
unfoldable pub add : TypeRow → Walk TypeId
add row s = Some (record { 0 = length s.rows }, record { rows = s.rows ++ row ∷ []; given = s.given })

-- ---- rows that name no others

abbrev pub least_integer : ℤ
least_integer = negsuc most_signed

abbrev pub greatest_integer : ℤ
greatest_integer = pos most_signed

abbrev pub range_row : Option RangeText → TypeRow
range_row None = rows.Integer least_integer greatest_integer
range_row (Some r) = rows.Integer r.low r.high

-- the most octets, where there is such a number
abbrev pub most : ℤ → Option ℕ
most (pos n) = if nat_le n most_32 then Some n else None
most (negsuc n) = None

abbrev pub size_of : Option RangeText → Option ℕ
size_of None = Some most_octets
size_of (Some r) = most r.high

abbrev pub item_of : ItemText → Item
item_of item = record { name = item.name.text; number = item.number }

abbrev pub add_if : {A : Type 0} → Option A → (A → TypeRow) → Walk TypeId
add_if None row = none
add_if (Some a) row = add (row a)

-- ---- tags (X.680 31.2)

abbrev pub is_choice : Option TypeRow → Bool
is_choice None = false
is_choice (Some (rows.Choice parts)) = true
is_choice (Some row) = false

-- whether a tag is explicit by what is written, else by the module's default
abbrev pub stated : Bool → Option Bool → Bool
stated implicit None = not implicit
stated implicit (Some explicit) = explicit

-- over an untagged CHOICE a tag is explicit, whatever is written (X.680 31.2.7)
abbrev pub is_explicit : Ground → TagText → TypeId → NumberedRows → Bool
is_explicit scope tag inner s = is_choice (slice_get s.rows inner.0) || stated scope.implicit tag.explicit

abbrev pub tag_row : Bool → TagText → TypeId → Class → TypeRow
tag_row explicit tag inner class = rows.Tagged class tag.number explicit inner

unfoldable pub tagged : Ground → Option TagText → TypeId → Walk TypeId
tagged scope None inner s = Some (inner, s)
tagged scope (Some tag) inner s = add_if (class_numbered (pos tag.class)) (tag_row (is_explicit scope tag inner s) tag inner) s

-- ---- defaults (X.680 25.9)

abbrev pub under : (ℕ → Option TypeRow) → Option TypeRow → Option TypeRow
under more None = None
under more (Some (rows.Tagged class number explicit inner)) = more inner.0
under more (Some row) = Some row

-- the row under at most so many tags of a row
unfoldable pub base_in : ℕ → List TypeRow → ℕ → Option TypeRow
base_in zero table n = None
base_in (suc turns) table n = under (base_in turns table) (slice_get table n)

-- the row under the tags of a row; a row nests at most 32 deep
unfoldable pub base : List TypeRow → ℕ → Option TypeRow
base table n = base_in most_levels table n

abbrev pub truth_number : Bool → ℤ
truth_number true = pos 1
truth_number false = pos 0

-- the number of the first item of a name
abbrev pub item_number : List Item → List ℕ → Option ℤ
item_number [] name = None
item_number (item ∷ items) name = if bytes_eq item.name name then Some item.number else item_number items name

-- TRUE or FALSE of a BOOLEAN, a number of an INTEGER, an item of an ENUMERATED
abbrev pub number_in : TypeRow → DfltValue → Option ℤ
number_in rows.Boolean (values.Truth b) = Some (truth_number b)
number_in (rows.Integer low high) (values.Number n) = Some n
number_in (rows.Enumerated items) (values.Item name) = item_number items name
number_in row value = None

unfoldable pub default_number : List TypeRow → TypeId → Option DfltText → Option (Option ℤ)
default_number table of None = Some None
default_number table of (Some dflt) = option_map Some (or_none (base table of.0) (λ row. number_in row dflt.value))

-- ---- types, over what walks a type in them

abbrev pub with_default : List ℕ → Bool → TypeId → NumberedRows → Option (Option ℤ) → Option (Part × NumberedRows)
with_default name optional of s None = None
with_default name optional of s (Some default) = Some (record { name = name; inner = of; optional = optional; default = default }, s)

unfoldable pub part_of : Located → Bool → Option DfltText → TypeId → Walk Part
part_of name optional dflt of s = with_default name.text optional of s (default_number s.rows of dflt)

-- the parts so far, and those that follow
unfoldable pub parts_of : (TypeTree → Walk TypeId) → List Part → PartTrees → Walk (List Part)
parts_of inner parts no_parts = give parts
parts_of inner parts (part name of optional dflt more) = inner of >>= part_of name optional dflt >>= λ p. parts_of inner (parts ++ p ∷ []) more

-- the type at a place has this row from now on
abbrev pub note : ℕ → TypeId → Walk TypeId
note place id s = Some (id, record { rows = s.rows; given = slice_set s.given place (Some id) })

abbrev pub walk_new : (TypeTree → Walk TypeId) → ℕ → Option TypeTree → Walk TypeId
walk_new inner place None = none
walk_new inner place (Some of) = inner of >>= note place

abbrev pub known : Option (Option TypeId) → Option TypeId
known None = None
known (Some id) = id

abbrev pub walk_if_new : (TypeTree → Walk TypeId) → ℕ → Option TypeTree → Option TypeId → Walk TypeId
walk_if_new inner place of None = walk_new inner place of
walk_if_new inner place of (Some id) = give id

-- the row of the type that is assigned at a place and is no alias
unfoldable pub row_of : Ground → (TypeTree → Walk TypeId) → ℕ → Walk TypeId
row_of scope inner place s = walk_if_new inner place (type_at scope.assignments place) (known (slice_get s.given place)) s

abbrev pub row_behind : Ground → (TypeTree → Walk TypeId) → Option ℕ → Walk TypeId
row_behind scope inner None = none
row_behind scope inner (Some place) = row_of scope inner place

-- the row of the type of a name
unfoldable pub named_row : Ground → (TypeTree → Walk TypeId) → List ℕ → Walk TypeId
named_row scope inner name = row_behind scope inner (or_none (find scope.assignments name) (behind scope.assignments))

unfoldable pub plain_row : Ground → (TypeTree → Walk TypeId) → PlainTree → Walk TypeId
plain_row scope inner boolean = add rows.Boolean
plain_row scope inner null = add rows.Null
plain_row scope inner (integer range) = add (range_row range)
plain_row scope inner (enumerated items) = add (rows.Enumerated (map item_of items))
plain_row scope inner (octets size) = add_if (size_of size) rows.OctetString
plain_row scope inner bits = add rows.BitString
plain_row scope inner object_id = add rows.ObjectId
plain_row scope inner (text kind) = add_if (kind_numbered (pos kind)) rows.Text
plain_row scope inner (sequence_of item) = inner item >>= λ of. add (rows.SequenceOf of)
plain_row scope inner (set_of item) = inner item >>= λ of. add (rows.SetOf of)
plain_row scope inner (sequence ps) = parts_of inner [] ps >>= λ parts. add (rows.Sequence parts)
plain_row scope inner (set ps) = parts_of inner [] ps >>= λ parts. add (rows.Set parts)
plain_row scope inner (choice ps) = parts_of inner [] ps >>= λ parts. add (rows.Choice parts)
plain_row scope inner (named name) = named_row scope inner name.text

abbrev pub over : Ground → (TypeTree → Walk TypeId) → TypeTree → Walk TypeId
over scope inner (type_tree line column tag plain) = plain_row scope inner plain >>= tagged scope tag

-- The row of a type that has types in it, or behind its names, at most so many deep.
unfoldable pub walk : Ground → ℕ → TypeTree → Walk TypeId
walk scope zero of = none
walk scope (suc turns) of = over scope (walk scope turns) of

-- A row nests at most 32 deep, and of two types that are walked one inside the other one has a row: so twice as many and one are enough.
unfoldable pub type_row : Ground → TypeTree → Walk TypeId
type_row scope of = walk scope (2 * most_levels + 1) of

-- what an operation or error carries
unfoldable pub use_of : Ground → Option UseText → Walk Use
use_of scope None = give (record { inner = None; optional = false })
use_of scope (Some u) = type_row scope u.of >>= λ id. give (record { inner = Some id; optional = u.optional })
