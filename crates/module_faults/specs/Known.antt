-- What is known of the types of a module, as the code has it.
use Rattle.std.specs.Prelude.{◌≡◌, ℕ, suc, ◌+◌, ◌<◌, ◌≤◌, Bool, true, false, ◌||◌, List, [], ◌∷◌, length, Option, None, Some, is_some, slice_get, if◌then◌else◌}
use Rattle.std.specs.List.{list_all}
use Rattle.osi_base.specs.Limits.{most_type_levels}
use Rattle.operation_notation.specs.Tree.{TypeTree}
use Rattle.operation_notation.specs.declared.module.Assignment.{Assignment}
use Rattle.module_faults.specs.declared.type_facts.DefaultKind.{DefaultKind as DefaultKindGiven}
use Rattle.module_faults.specs.declared.type_facts.DefaultKind.TheVariants as given
use Rattle.module_faults.specs.declared.type_facts.Facts.{Facts as FactsGiven}
use Rattle.module_faults.specs.declared.type_facts.Facing.{Facing}
use Rattle.module_faults.specs.declared.reach_search.Standing.{Standing}
use Rattle.module_faults.specs.Names.{type_at, type_place}
use Rattle.module_faults.specs.Recursion.{type_uses}
use Rattle.module_faults.specs.Standings.{says}
use Rattle.module_faults.specs.Facts.{DefaultKind, truth, numbers, items, other, unknown, Facts, nothing, facts_by, name_facts}

abbrev pub base_of : DefaultKindGiven → DefaultKind
base_of given.Boolean = truth
base_of (given.Integer low high) = numbers low high
base_of (given.Enumerated all) = items all.now
base_of given.Other = other
base_of given.Unknown = unknown

abbrev pub facts_of : FactsGiven → Facts
facts_of f = record { nesting = f.nesting; tags = f.tags.items; base = base_of f.base }

abbrev pub known_by : Option (Option FactsGiven) → Facts
known_by None = nothing
known_by (Some None) = nothing
known_by (Some (Some f)) = facts_of f

abbrev pub is_known : Option (Option FactsGiven) → Bool
is_known None = false
is_known (Some None) = false
is_known (Some (Some f)) = true

abbrev pub env_at : List Standing → List (Option FactsGiven) → Option ℕ → Facts
env_at standings known None = nothing
env_at standings known (Some place) = if says standings place then nothing else known_by (slice_get known place)

-- what is known of the type of a name, as far as it is
abbrev pub known_env : List Assignment → List Standing → List (Option FactsGiven) → List ℕ → Facts
known_env all standings known name = env_at standings known (type_place all name)

abbrev pub env_by : Facing → List ℕ → Facts
env_by facing = known_env facing.names.now facing.standings.now facing.known.now

-- what a place adds is settled: it is said to reach itself, or is known
abbrev pub settles : List Standing → List (Option FactsGiven) → ℕ → Bool
settles standings known place = says standings place || is_known (slice_get known place)

-- what is known of types is what they are, over any number of names from this on
pub record AreKnown (all : List Assignment) (standings : List Standing) (known : List (Option FactsGiven)) (turns : ℕ) : Type 0 where
  pub so : (place : ℕ) → is_known (slice_get known place) ≡ true → (n : ℕ) → turns ≤ n
      → facts_by (name_facts all (says standings) n) (type_at all place) ≡ known_by (slice_get known place)

-- ---- what is learned

-- of how many types nothing is known
abbrev pub unknowns : List (Option FactsGiven) → ℕ
unknowns [] = 0
unknowns (None ∷ known) = suc (unknowns known)
unknowns (Some f ∷ known) = unknowns known

-- what is known of types is what they are, over as many names at most as types were learned
pub record AreLearned (all : List Assignment) (standings : List Standing) (known : List (Option FactsGiven)) : Type 0 where
  pub turns : ℕ
  pub are : AreKnown all standings known turns
  pub count : turns + unknowns known ≡ length all
  pub long : length known ≡ length all

-- a type that isn't settled, where all that it names is
abbrev pub ready_by : List Assignment → List Standing → List (Option FactsGiven) → ℕ → Option TypeTree → Option TypeTree
ready_by all standings known place None = None
ready_by all standings known place (Some of) =
    if settles standings known place then None
    else (if list_all (settles standings known) (type_uses all most_type_levels of) then Some of else None)

-- the type at a place, if it is such a one
abbrev pub ready : List Assignment → List Standing → List (Option FactsGiven) → ℕ → Option TypeTree
ready all standings known place = ready_by all standings known place (type_at all place)

-- nothing more can be learned
abbrev pub AreAllLearned : List Assignment → List Standing → List (Option FactsGiven) → Type 0
AreAllLearned all standings known = (place : ℕ) → place < length all → ready all standings known place ≡ None

-- a type is assigned at a place
abbrev pub is_type : List Assignment → ℕ → Bool
is_type all place = is_some (type_at all place)

-- all types are settled
pub record AreSettled (all : List Assignment) (standings : List Standing) (known : List (Option FactsGiven)) : Type 0 where
  pub all_are : (place : ℕ) → is_type all place ≡ true → settles standings known place ≡ true
