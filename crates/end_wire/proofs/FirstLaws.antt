-- What stands first in octets.
use Rattle.std.proofs.Common.{◌≡◌, ℕ, ◌<◌, false, List, ◌++◌, length, Result, ap}
use Rattle.asn1_types.specs.Value.{Value, any}
use Rattle.ber_spelling.specs.declared.fault.ReadFault.{ReadFault}
use Rattle.ber_spelling.specs.declared.fault.ReadFault.TheVariants as faults
use Rattle.osi_base.specs.Octets.{AreOctets}
use Rattle.ber_spelling.specs.Rules.{read_at}
use Rattle.ber_spelling.proofs.WholeValues.{beginning_is_short}
use Rattle.stub_tables.specs.AnyValue.{any_value_rows, any_value_row}
use Rattle.stub_tables.specs.Apdus.{IsWhole}
use Rattle.stub_tables.proofs.Readings.{any_value_sound, whole_read}
use Rattle.end_wire.specs.Bare.{Short, Whole, beginning_of, first_at}

abbrev read_any : List ℕ → Result (Value × ℕ) ReadFault
read_any text = read_at any_value_rows any_value_row false 262144 text

-- a whole value stands first, whatever follows
pub whole_first : (text more : List ℕ) → IsWhole text → first_at (text ++ more) ≡ Whole (length text)
unfolding first_at
whole_first text more w = ap beginning_of (whole_read text more w)

-- a proper beginning of one is too short
pub beginning_short : (front back : List ℕ) → AreOctets (front ++ back) → IsWhole (front ++ back) → 0 < length back → first_at front ≡ Short
unfolding first_at IsWhole
beginning_short front back are w some = ap beginning_of (beginning_is_short any_value_rows any_value_row false 262144 (any (front ++ back)) front back any_value_sound are w some)
