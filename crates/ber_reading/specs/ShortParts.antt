-- Fields whose identifier and length have one octet each.
use Rattle.std.specs.Prelude.{◌≡◌, ℕ, ◌+◌, ◌≤◌, ◌<◌, false, drop}
use Rattle.asn1_types.specs.declared.row.Class.TheVariants.{Universal}
use Rattle.ber_spelling.specs.declared.spot.Scope.{Scope}
use Rattle.asn1_types.specs.declared.row.Tag as tags
use Rattle.ber_spelling.specs.Reading.{Spot, Opened, is_past}

-- Octets stand up to a place, and what goes on to `reach` at most is within them, the limit and the contents.
pub record IsReach (scope : Scope) (until reach : ℕ) : Type 0 where
  pub octets : reach ≤ until
  pub limit : reach ≤ scope.limit
  pub contents : is_past scope.end reach ≡ false
  pub plain : 0 < reach → scope.marked ≡ false
  pub levels : 0 < reach → 0 < scope.levels

abbrev pub integer_tag : tags.Tag
integer_tag = record { class = Universal; number = 2 }

-- the identifier of an INTEGER at this spot
abbrev pub integer_opened : Spot → Opened
integer_opened s = record { start = s; class = Universal; constructed = false; number = 2 }

-- behind an identifier of one octet
abbrev pub behind : Spot → Spot
behind s = record { place = s.place + 1; rest = drop 1 s.rest }
