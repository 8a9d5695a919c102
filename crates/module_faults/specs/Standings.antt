-- How assignments stand among those that reach them and that they reach, as far as it is checked.
use Rattle.std.specs.Prelude.{◌≡◌, ℕ, ◌<◌, nat_eq, nat_lt, Bool, true, false, not, ◌&&◌, ◌||◌, List, length, Option, None, Some, slice_get}
use Rattle.std.specs.List.{list_all}
use Rattle.module_faults.specs.declared.reach_search.Standing.{Standing}
use Rattle.module_faults.specs.Recursion.{list_at}

abbrev pub flag : Option Standing → Bool
flag None = false
flag (Some s) = s.is_recursive

-- whether the assignment at a place is said to reach itself
abbrev pub says : List Standing → ℕ → Bool
says standings place = flag (slice_get standings place)

-- what one names has a lesser number, or the same where it is said to reach itself
abbrev pub falls_to : Standing → Option Standing → Bool
falls_to s None = false
falls_to s (Some t) = nat_lt t.component s.component || (s.is_recursive && nat_eq t.component s.component)

abbrev pub all_fall : List Standing → Standing → List ℕ → Bool
all_fall standings s uses = list_all (λ to. falls_to s (slice_get standings to)) uses

-- one of the same root is lower
abbrev pub is_lower : Standing → Option Standing → Bool
is_lower s None = false
is_lower s (Some t) = t.is_recursive && (nat_eq t.root s.root && nat_lt t.height s.height)

abbrev pub leads_to : List Standing → Standing → Option ℕ → Bool
leads_to standings s None = false
leads_to standings s (Some to) = nat_eq to s.root || is_lower s (slice_get standings to)

-- by one of its names it goes on to the root, or to one that is lower
abbrev pub goes_on : List (List ℕ) → List Standing → ℕ → Standing → Bool
goes_on lists standings place s = leads_to standings s (slice_get (list_at lists place) s.way)

-- one of the same root was met before
abbrev pub is_earlier : Standing → Option Standing → Bool
is_earlier s None = false
is_earlier s (Some t) = t.is_recursive && (nat_eq t.root s.root && nat_lt t.met s.met)

abbrev pub is_place : ℕ → Option ℕ → Bool
is_place place None = false
is_place place (Some to) = nat_eq to place

-- it is the root, or the root or one that was met before names it
abbrev pub comes_from : List (List ℕ) → List Standing → ℕ → Standing → Bool
comes_from lists standings place s =
    nat_eq place s.root
    || (is_place place (slice_get (list_at lists s.before) s.branch) && (nat_eq s.before s.root || is_earlier s (slice_get standings s.before)))

abbrev pub is_shown_by : List (List ℕ) → List Standing → ℕ → Standing → Bool
is_shown_by lists standings place s =
    all_fall standings s (list_at lists place)
    && (not s.is_recursive || (goes_on lists standings place s && comes_from lists standings place s))

abbrev pub is_shown_at : List (List ℕ) → List Standing → ℕ → Option Standing → Bool
is_shown_at lists standings place None = false
is_shown_at lists standings place (Some s) = is_shown_by lists standings place s

-- that what is said of a place is so shows in how it stands
abbrev pub is_shown : List (List ℕ) → List Standing → ℕ → Bool
is_shown lists standings place = is_shown_at lists standings place (slice_get standings place)

-- all that is said is so
pub record AreShown (lists : List (List ℕ)) (standings : List Standing) : Type 0 where
  pub count : length standings ≡ length lists
  pub shown : (place : ℕ) → place < length lists → is_shown lists standings place ≡ true
