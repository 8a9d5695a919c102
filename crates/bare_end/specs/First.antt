-- What stands first in octets, as an end sees it.
use Rattle.std.specs.Prelude.{◌≡◌, ℕ, ◌≤◌, ◌<◌, List, length}
use Rattle.osi_base.specs.Limits.{most_octets}
use Rattle.stream_front.specs.declared.first_value.FirstValue as fronts
use Rattle.stream_front.specs.declared.first_value.FirstValue.TheVariants as front
use Rattle.end_wire.specs.Bare.{Short, Whole, Faulty, first_at}

-- one whole value, with some octets of those that are there
pub record IsWholeFirst (octets : List ℕ) (used : ℕ) : Type 0 where
  pub first : first_at octets ≡ Whole used
  pub some : 0 < used
  pub within : used ≤ length octets

-- less than one whole value, of at most 262,144 octets
pub record IsShortFirst (octets : List ℕ) : Type 0 where
  pub first : first_at octets ≡ Short
  pub few : length octets ≤ most_octets

abbrev pub IsFirst : List ℕ → fronts.FirstValue → Type 0
IsFirst octets front.Short = IsShortFirst octets
IsFirst octets (front.Whole used) = IsWholeFirst octets used
IsFirst octets (front.Faulty place) = first_at octets ≡ Faulty place
