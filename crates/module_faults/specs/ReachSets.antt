-- The sets of what assignments reach, as lists of tests of places; and what a survey says of which reach themselves.
use Rattle.std.specs.Prelude.{◌≡◌, ℕ, suc, ◌<◌, nat_eq, Bool, true, false, not, ◌||◌, List, [], ◌∷◌, length, Option, None, Some, slice_get, if◌then◌else◌}
use Rattle.module_faults.specs.declared.reach_search.Standing.{Standing}
use Rattle.module_faults.specs.Recursion.{list_at, Uses, Reaches}
use Rattle.module_faults.specs.Standings.{says}

abbrev pub holds : Option Bool → Bool
holds None = false
holds (Some b) = b

abbrev pub lacks : Option Bool → Bool
lacks None = false
lacks (Some b) = not b

-- a set has a place
abbrev pub is_in : List Bool → ℕ → Bool
is_in reached place = holds (slice_get reached place)

-- the first of these places that a set lacks
abbrev pub first_out : List Bool → List ℕ → Option ℕ
first_out reached [] = None
first_out reached (to ∷ more) = if lacks (slice_get reached to) then Some to else first_out reached more

-- the first that the set of a place lacks of those that one names, if that is the place itself or in the set
abbrev pub first_from : List (List ℕ) → ℕ → List Bool → ℕ → Option ℕ
first_from lists place reached from = if nat_eq from place || is_in reached from then first_out reached (list_at lists from) else None

-- one that the set of a place lacks, and that the place or one of the set names
pub record IsNext (lists : List (List ℕ)) (place : ℕ) (reached : List Bool) (to : ℕ) : Type 0 where
  pub from : ℕ
  pub first : first_from lists place reached from ≡ Some to

-- the set of a place has all that the place and those of the set name
abbrev pub IsClosed : List (List ℕ) → ℕ → List Bool → Type 0
IsClosed lists place reached = (from : ℕ) → from < length lists → first_from lists place reached from ≡ None

-- how many places a set lacks
abbrev pub outs : List Bool → ℕ
outs [] = 0
outs (true ∷ reached) = outs reached
outs (false ∷ reached) = suc (outs reached)

-- some of what a place reaches
pub record AreReached (lists : List (List ℕ)) (place : ℕ) (reached : List Bool) : Type 0 where
  pub count : length reached ≡ length lists
  pub sound : (to : ℕ) → is_in reached to ≡ true → Reaches lists place to

-- the set of what a place reaches
pub record IsReach (lists : List (List ℕ)) (place : ℕ) (reached : List Bool) : Type 0 where
  pub are : AreReached lists place reached
  pub whole : (to : ℕ) → Reaches lists place to → to < length lists → is_in reached to ≡ true

-- what is said of a place is what the set of what it reaches says
pub record IsSurveyedBySet (lists : List (List ℕ)) (standings : List Standing) (place : ℕ) : Type 0 where
  pub reached : List Bool
  pub is : IsReach lists place reached
  pub agrees : says standings place ≡ is_in reached place

-- The survey of which assignments reach themselves is right; and a number of each falls along names, among those that don't.
pub record IsRightSurvey (lists : List (List ℕ)) (standings : List Standing) : Type 0 where
  pub sound : (place : ℕ) → says standings place ≡ true → Reaches lists place place
  pub whole : (place : ℕ) → Reaches lists place place → says standings place ≡ true
  pub depth : ℕ → ℕ
  pub falls : (from to : ℕ) → Uses lists from to → says standings from ≡ false → says standings to ≡ false → depth to < depth from
