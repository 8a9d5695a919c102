-- Values that have their form and whose items of a SET OF have short spellings, which are compared by lengths of 64 bits: a means
-- of `fits`, since in a value with a short spelling each item has one.
use Rattle.std.specs.Prelude.{ℕ, Bool, true, false, ◌&&◌, Option, Some, None, List, length, if◌then◌else◌}
use Rattle.asn1_types.specs.declared.row.TypeRow.{TypeRow}
use Rattle.asn1_types.specs.declared.row.TypeRow.TheVariants as row
use Rattle.asn1_types.specs.Rows.{along}
use Rattle.asn1_types.specs.Value.{Value, list, Values, no_values, value}
use Rattle.asn1_types.specs.Fits.{list_fits, form_by, nothing_fits, is_short}
use Rattle.asn1_types.specs.Rising.{is_less, follows}
use Rattle.asn1_types.specs.Writing.{written}

-- less, told of short octets
abbrev pub told_less : List ℕ → List ℕ → Option Bool
told_less xs ys = if is_short (length ys) && is_short (length xs) then Some (is_less xs ys) else None

abbrev pub stand_so : (Value → List ℕ) → Value → Value → Bool
stand_so spell v w = is_short (length (spell v)) && is_short (length (spell w)) && follows spell v w

abbrev pub stand_behind : (Value → List ℕ) → Value → Values → Bool
stand_behind spell v no_values = true
stand_behind spell v (value w ws) = stand_so spell v w && stand_behind spell w ws

abbrev pub stand_rising : (Value → List ℕ) → Values → Bool
stand_rising spell no_values = true
stand_rising spell (value v vs) = stand_behind spell v vs

abbrev pub set_stands : (Value → List ℕ) → Value → Bool
set_stands spell (list vs) = stand_rising spell vs
set_stands spell v = false

abbrev pub short_by : (ℕ → Value → List ℕ) → (ℕ → Value → Bool) → TypeRow → Value → Bool
short_by spell inner (row.SetOf of) v = list_fits (inner of.0) v && set_stands (spell of.0) v
short_by spell inner r v = form_by spell inner r v

unfoldable pub has_short_form : List TypeRow → ℕ → Value → Bool
has_short_form rows n = along nothing_fits (short_by (written rows)) rows (length rows) n
