-- What is kept of the names of a module: what stands behind aliases, and the codes that were met.
use Rattle.std.specs.Prelude.{◌≡◌, ℕ, ◌+◌, Bool, nat_eq, List, [], ◌∷◌, Option, Some, None, slice_get}
use Rattle.std.specs.Ordering.{int_eq}
use Rattle.std.specs.Cmp.Lexicographic.{pointwise}
use Rattle.std.specs.HashSet.{contains_by}
use Rattle.stub_tables.specs.declared.operation.Code.{Code}
use Rattle.stub_tables.specs.declared.operation.Code.TheVariants.{Local, Global}
use Rattle.operation_notation.specs.declared.module.Assignment.{Assignment}
use Rattle.module_compiler.specs.declared.scope.Behind.{Behind}
use Rattle.module_compiler.specs.declared.scope.Followed.{Followed}
use Rattle.module_compiler.specs.declared.scope.Followed.TheVariants.{NotYet, Open, Known}
use Rattle.module_faults.specs.Names.{or_none, find, type_at}
use Rattle.module_compiler.specs.declared.own_codes.Seen.{Seen}
use Rattle.module_compiler.specs.Scope.{alias, behind_by}

-- this stands behind so many aliases from a place on; or nothing is known
abbrev pub IsBehind : List Assignment → ℕ → Option Behind → Type 0
IsBehind assignments place None = Unit {0}
IsBehind assignments place (Some found) = behind_by assignments (found.aliases + 1) place ≡ Some found.place

abbrev pub IsFollowed : List Assignment → ℕ → Followed → Type 0
IsFollowed assignments place NotYet = Unit {0}
IsFollowed assignments place Open = Unit {0}
IsFollowed assignments place (Known found) = IsBehind assignments place found

abbrev pub AreFollowed : List Assignment → List Followed → Type 0
AreFollowed assignments all = (place : ℕ) (followed : Followed) → slice_get all place ≡ Some followed → IsFollowed assignments place followed

abbrev pub AreBehind : List Assignment → List (Option Behind) → Type 0
AreBehind assignments all = (place : ℕ) (found : Option Behind) → slice_get all place ≡ Some found → IsBehind assignments place found

-- behind one alias more the same stands, unless there are too many to be counted
abbrev pub IsOneMore : Option Behind → Option Behind → Type 0
IsOneMore found None = Unit {0}
IsOneMore None (Some more) = ⊥
IsOneMore (Some found) (Some more) = (more.place ≡ found.place) × (more.aliases ≡ found.aliases + 1)

-- the next place behind an alias
abbrev pub step : List Assignment → ℕ → Option ℕ
step assignments place = or_none (or_none (type_at assignments place) alias) (find assignments)

-- one alias after the other, and behind the last this place
abbrev pub Leads : List Assignment → List ℕ → ℕ → Type 0
Leads assignments [] at = Unit {0}
Leads assignments (x ∷ []) at = step assignments x ≡ Some at
Leads assignments (x ∷ y ∷ ys) at = (step assignments x ≡ Some y) × Leads assignments (y ∷ ys) at

-- where they begin
abbrev pub From : ℕ → List ℕ → ℕ → Type 0
From place [] at = place ≡ at
From place (x ∷ xs) at = place ≡ x

-- a code was met
abbrev pub has : Seen → Code → Bool
has seen (Local number) = contains_by (λ n. int_eq number n) seen.locals
has seen (Global arcs) = contains_by (λ k. pointwise nat_eq arcs k.now) seen.globals
