-- What the names of a module stand for.
use Rattle.std.specs.Prelude.{ℕ, zero, suc, ◌+◌, Bool, true, false, List, [], ◌∷◌, length, Option, Some, None}
use Rattle.operation_notation.specs.Tree.{TypeTree, type_tree, named}
use Rattle.operation_notation.specs.declared.module.Assignment.{Assignment}
use Rattle.operation_notation.specs.declared.module.Assigned.{Assigned}
use Rattle.operation_notation.specs.declared.module.Assigned.TheVariants as bodies
use Rattle.module_faults.specs.Names.{or_none, find, type_at}

-- what a module's types are read by: its assignments, and whether a tag is implicit unless it says otherwise
pub record Ground : Type 0 where
  pub assignments : List Assignment
  pub implicit : Bool

-- A type that is a Name without a tag is an alias: it stands for the type that is named (X.680 16.1).
abbrev pub alias : TypeTree → Option (List ℕ)
alias (type_tree line column None (named name)) = Some name.text
alias of = None

-- a type that is no alias
abbrev pub is_none : {A : Type 0} → Option A → Bool
is_none None = true
is_none (Some a) = false

abbrev pub is_plain : Option TypeTree → Bool
is_plain None = false
is_plain (Some of) = is_none (alias of)

-- one more alias, or the place itself where no alias stands
abbrev pub beyond : List Assignment → (ℕ → Option ℕ) → ℕ → TypeTree → Option (List ℕ) → Option ℕ
beyond assignments more place of None = Some place
beyond assignments more place of (Some name) = or_none (find assignments name) more

-- the place of the type that stands behind aliases, over at most so many of them
unfoldable pub behind_by : List Assignment → ℕ → ℕ → Option ℕ
behind_by assignments zero place = None
behind_by assignments (suc turns) place = or_none (type_at assignments place) (λ of. beyond assignments (behind_by assignments turns) place of (alias of))

-- No alias stands before itself, so there are no more of them in a row than assignments.
unfoldable pub behind : List Assignment → ℕ → Option ℕ
behind assignments place = behind_by assignments (length assignments) place

-- ---- operations and errors, numbered each for themselves in the order of the text

-- an operation's or error's own number, and then the others'
abbrev pub numbered : ℕ → ℕ → Assigned → List ℕ → List ℕ → List ℕ → List ℕ
numbered operations errors (bodies.Typed of) behind_operation behind_error behind_type = 0 ∷ behind_type
numbered operations errors (bodies.Operation operation) behind_operation behind_error behind_type = operations ∷ behind_operation
numbered operations errors (bodies.Error error) behind_operation behind_error behind_type = errors ∷ behind_error

-- the numbers by the places of their assignments, of which so many of either stand before
abbrev pub own_numbers : ℕ → ℕ → List Assignment → List ℕ
own_numbers operations errors [] = []
own_numbers operations errors (a ∷ more) = numbered operations errors a.body (own_numbers (operations + 1) errors more) (own_numbers operations (errors + 1) more) (own_numbers operations errors more)
