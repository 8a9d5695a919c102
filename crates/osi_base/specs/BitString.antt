-- Bits of a BIT STRING, counted from the leading one (X.680 22.2).
use Rattle.std.specs.Prelude.{ℕ, ◌/◌, ◌%◌, Bool, false, Option, Some, None, slice_get}
use Rattle.osi_base.specs.declared.bit_string.BitString as strings
use Rattle.osi_base.specs.Bits.{is_set}

abbrev pub bit_in : Option ℕ → ℕ → Bool
bit_in None bit = false
bit_in (Some octet) bit = is_set octet bit

-- A bit is set, so it stands there. Unused bits are zero in what is read.
abbrev pub has_bit : strings.BitString → ℕ → Bool
has_bit string bit = bit_in (slice_get string.octets (bit / 8)) (bit % 8)
