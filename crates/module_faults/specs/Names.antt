-- What the names of a module stand for.
use Rattle.std.specs.Prelude.{◌≡◌, ℕ, List, Option, None, Some, cond, slice_get}
use Rattle.std.specs.List.{position_from}
use Rattle.std.specs.Option.{option_or}
use Rattle.std.specs.Str.{bytes_eq}
use Rattle.std.specs.HashMap.{HashMap}
use Rattle.indexmap.specs.IndexMap.{get_by}
use denote.Ref.{Bor}
use Rattle.operation_notation.specs.Tree.{TypeTree}
use Rattle.operation_notation.specs.declared.module.Assignment.{Assignment}
use Rattle.operation_notation.specs.declared.module.Assigned.{Assigned}
use Rattle.operation_notation.specs.declared.module.Assigned.TheVariants as bodies

abbrev pub or_none : {A B : Type 0} → Option A → (A → Option B) → Option B
or_none None f = None
or_none (Some a) f = f a

-- the place of the first assignment of a name
unfoldable pub find : List Assignment → List ℕ → Option ℕ
find all name = position_from (λ (a : Assignment). bytes_eq name a.name.text) 0 all

-- what a name is assigned first
abbrev pub assigned : List Assignment → List ℕ → Option Assigned
assigned all name = or_none (find all name) (λ place. or_none (slice_get all place) (λ a. Some a.body))

abbrev pub typed : Assigned → Option TypeTree
typed (bodies.Typed of) = Some of
typed (bodies.Operation operation) = None
typed (bodies.Error error) = None

-- the type that is assigned at a place
abbrev pub type_at : List Assignment → ℕ → Option TypeTree
type_at all place = or_none (slice_get all place) (λ a. typed a.body)

-- the place of the type of a name
abbrev pub type_place : List Assignment → List ℕ → Option ℕ
type_place all name = or_none (find all name) (λ place. or_none (type_at all place) (λ of. Some place))

-- ---- what is kept of names

-- each name is found where it is assigned first
abbrev pub AreFound : {S : Type 0} → List Assignment → HashMap (Bor (List ℕ)) ℕ S → Type 0
AreFound all places = (name : List ℕ) → get_by (λ (k : Bor (List ℕ)). bytes_eq name k.now) places ≡ find all name

-- a name has this place now, unless it had one, and other names have what they had
abbrev pub IsAdded : {S : Type 0} → HashMap (Bor (List ℕ)) ℕ S → HashMap (Bor (List ℕ)) ℕ S → List ℕ → ℕ → Type 0
IsAdded old new name place =
    (other : List ℕ) → get_by (λ (k : Bor (List ℕ)). bytes_eq other k.now) new
    ≡ option_or (get_by (λ (k : Bor (List ℕ)). bytes_eq other k.now) old)
    (cond (bytes_eq other name) (Some place) None)
