-- Faults, and the least of them: by line, column and the order of kinds.
use Rattle.std.specs.Prelude.{ℕ, Bool, true, false, not, nat_eq, nat_lt, List, [], ◌∷◌, Option, None, Some, if◌then◌else◌}
use Rattle.notation_tokens.specs.declared.token.Located.{Located}
use Rattle.module_faults.specs.declared.kind.TableKind.{TableKind}
use Rattle.module_faults.specs.declared.kind.TableKind.TheVariants as kinds
use Rattle.module_faults.specs.declared.least.Found.{Found}

-- ---- faults

abbrev pub fault : ℕ → ℕ → TableKind → Found
fault line column kind = record { place = record { line = line; column = column }; kind = kind }

-- a fault whose token is a name
abbrev pub at_name : Located → TableKind → Found
at_name name kind = fault name.line name.column kind

-- a fault where this is so, else none
abbrev pub if_so : Bool → Found → List Found
if_so false f = []
if_so true f = f ∷ []

-- ---- the least of them

-- the order of kinds at one token
abbrev pub rank : TableKind → ℕ
rank kinds.UnknownName = 0
rank kinds.NotOperation = 1
rank kinds.NotError = 2
rank kinds.DoubleName = 3
rank kinds.DoubleCode = 4
rank kinds.NoCode = 5
rank kinds.Recursive = 6
rank kinds.TooNested = 7
rank kinds.TagsNotDistinct = 8
rank kinds.BadRange = 9
rank kinds.Contradiction = 10
rank kinds.BadDefault = 11

abbrev pub is_before : Found → Found → Bool
is_before a b =
    if not (nat_eq a.place.line b.place.line) then nat_lt a.place.line b.place.line
    else (if not (nat_eq a.place.column b.place.column) then nat_lt a.place.column b.place.column else nat_lt (rank a.kind) (rank b.kind))

-- the least so far, and one more
abbrev pub lesser : Option Found → Found → Option Found
lesser None f = Some f
lesser (Some least) f = if is_before f least then Some f else Some least

-- the least of those so far and of these
unfoldable pub least_from : Option Found → List Found → Option Found
least_from so_far [] = so_far
least_from so_far (f ∷ more) = least_from (lesser so_far f) more

-- the least of faults, if there are any
abbrev pub least : List Found → Option Found
least faults = least_from None faults
