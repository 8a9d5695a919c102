-- What is written in DER are octets (X.690 8.1).
use Rattle.std.specs.Prelude.{◌≡◌, ◌≢◌, ◌<◌, ◌^◌, ℕ, true, List, Some, length, slice_get}
use Rattle.osi_base.specs.Octets.{AreOctets}
use Rattle.asn1_types.specs.declared.row.TypeRow.{TypeRow}
use Rattle.asn1_types.specs.declared.row.TypeRow.TheVariants as row
use Rattle.asn1_types.specs.Fits.{has_form}
use Rattle.asn1_types.specs.Value.{Value, boolean, integer, null, octets, bits, object_id, text, parts, list, chosen, any, MaybeValues, no_parts, absent, present, Values, no_values, value}
use Rattle.asn1_types.specs.Writing.{written}

-- the strings that stand in a value are octets, and its values of any type that aren't too long
abbrev mutual
  pub LeavesAre : Value → Type 0
  LeavesAre (boolean b) = Unit {0}
  LeavesAre (integer z) = Unit {0}
  LeavesAre null = Unit {0}
  LeavesAre (octets os) = AreOctets os
  LeavesAre (bits os unused) = (unused < 256) × AreOctets os
  LeavesAre (object_id arcs) = Unit {0}
  LeavesAre (text os) = AreOctets os
  LeavesAre (parts ps) = LeavesInParts ps
  LeavesAre (list vs) = LeavesInValues vs
  LeavesAre (chosen which v) = LeavesAre v
  LeavesAre (any os) = length os < 2 ^ 24 → AreOctets os

  pub LeavesInParts : MaybeValues → Type 0
  LeavesInParts no_parts = Unit {0}
  LeavesInParts (absent ps) = LeavesInParts ps
  LeavesInParts (present v ps) = LeavesAre v × LeavesInParts ps

  pub LeavesInValues : Values → Type 0
  LeavesInValues no_values = Unit {0}
  LeavesInValues (value v vs) = LeavesAre v × LeavesInValues vs

-- A length of fewer than 2^24 octets has three digits at most.
abbrev pub DerAreOctets : Type 0
DerAreOctets = (rows : List TypeRow) (n : ℕ) (v : Value) → LeavesAre v → length (written rows n v) < 2 ^ 24 → AreOctets (written rows n v)

-- so it is of each value that has the form of a row of a table without `Any`
abbrev pub FittingLeavesAre : Type 0
FittingLeavesAre = (rows : List TypeRow) (n : ℕ) (v : Value) → ((k : ℕ) → slice_get rows k ≢ Some row.Any) → has_form rows n v ≡ true → LeavesAre v
