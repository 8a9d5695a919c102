-- The laws of spellings that need no reader.
use Rattle.std.specs.Prelude.{◌≡◌, ℕ, ◌-◌, ◌<◌, Bool, true, false, List, length, slice_index}
use Rattle.asn1_types.specs.declared.row.TypeRow.{TypeRow}
use Rattle.asn1_types.specs.Fits.{are_bits}
use Rattle.asn1_types.specs.Table.{AreSoundRows}
use Rattle.asn1_types.specs.Value.{Value}
use Rattle.ber_spelling.specs.Laws.{HoldsUnused}
use Rattle.ber_spelling.specs.Spelling.{Spells}
use Rattle.ber_laws.specs.Values.{IsValue, HasBits}

-- what spells a value is one whole value of any type
abbrev pub SpelledIsValue : Type 0
SpelledIsValue = (rows : List TypeRow) (n : ℕ) (strict : Bool) (limit : ℕ) (v : Value) (spelled : List ℕ) → AreSoundRows rows
    → Spells rows n strict limit v spelled → IsValue spelled

-- In BER the unused bits of a BIT STRING that stands anywhere in a value may have any values, and the octets spell the value
-- in which they are zeros (X.690 8.6.2.3).
abbrev pub UnusedBitsMayBeAny : Type 0
UnusedBitsMayBeAny = (rows : List TypeRow) (n limit : ℕ) (v : Value) (spelled : List ℕ) (os : List ℕ) (unused : ℕ) → Spells rows n false limit v spelled → HasBits os unused v
    → (are_bits os unused ≡ true) × (0 < unused → HoldsUnused (slice_index os (length os - 1)) unused (Spells rows n false limit v) spelled)
