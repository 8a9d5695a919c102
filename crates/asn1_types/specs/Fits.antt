-- Which values fit which rows of a table.
use Rattle.std.specs.Prelude.{ℕ, ◌-◌, ◌%◌, ◌^◌, ℤ, pos, negsuc, Bool, true, false, not, ◌&&◌, ◌||◌, List, [], ◌∷◌, length, Option, Some, None, slice_get, slice_index, nat_lt, nat_le, nat_eq, int_lt, if◌then◌else◌}
use Rattle.std.specs.List.{list_all}
use Rattle.std.specs.Str.{is_utf8}
use Rattle.osi_base.specs.Oid.{is_oid}
use Rattle.osi_base.specs.Limits.{number_bits, most_spelled}
use Rattle.asn1_types.specs.declared.row.Item.{Item}
use Rattle.asn1_types.specs.declared.row.Part.{Part}
use Rattle.asn1_types.specs.declared.row.TextKind.{TextKind}
use Rattle.asn1_types.specs.declared.row.TextKind.TheVariants.{Utf8, Ia5, Visible, Printable, Numeric}
use Rattle.asn1_types.specs.declared.row.TypeRow.{TypeRow}
use Rattle.asn1_types.specs.declared.row.TypeRow.TheVariants as row
use Rattle.asn1_types.specs.Value.{Value, boolean, integer, null, octets, bits, object_id, text, parts, list, chosen, any, MaybeValues, no_parts, absent, present, Values, no_values, value}
use Rattle.asn1_types.specs.Rows.{along}
use Rattle.asn1_types.specs.Defaults.{is_item, may_be_absent, is_default}
use Rattle.asn1_types.specs.Whole.{is_whole}
use Rattle.asn1_types.specs.Writing.{written}
use Rattle.asn1_types.specs.Rising.{set_rises}
use Rattle.asn1_types.specs.PackedSize.{packed_size}

-- numbers have 64 bits, one of them the sign's
abbrev pub is_number : ℤ → Bool
is_number (pos n) = nat_lt n (2 ^ (number_bits - 1))
is_number (negsuc n) = nat_lt n (2 ^ (number_bits - 1))

abbrev pub boolean_fits : Value → Bool
boolean_fits (boolean b) = true
boolean_fits v = false

abbrev pub integer_fits : ℤ → ℤ → Value → Bool
integer_fits low high (integer z) = is_number z && not (int_lt z low) && not (int_lt high z)
integer_fits low high v = false

abbrev pub enumerated_fits : List Item → Value → Bool
enumerated_fits items (integer z) = is_number z && is_item items z
enumerated_fits items v = false

abbrev pub null_fits : Value → Bool
null_fits null = true
null_fits v = false

-- a number of 32 bits, as arcs and the identifiers of contexts have
abbrev pub has_32_bits : ℕ → Bool
has_32_bits n = nat_lt n (2 ^ 32)

abbrev pub object_id_fits : Value → Bool
object_id_fits (object_id arcs) = is_oid arcs && list_all has_32_bits arcs
object_id_fits v = false

-- ---- strings

abbrev pub is_octet : ℕ → Bool
is_octet o = nat_lt o 256

abbrev pub octets_fit : ℕ → Value → Bool
octets_fit most (octets os) = list_all is_octet os && nat_le (length os) most
octets_fit most v = false

-- 0 to 7 bits of the last octet are unused, none where there is no octet, and they are zero
abbrev pub are_bits : List ℕ → ℕ → Bool
are_bits os unused = nat_lt unused 8 && (if nat_eq (length os) 0 then nat_eq unused 0 else nat_eq (slice_index os (length os - 1) % 2 ^ unused) 0)

abbrev pub bits_fit : Value → Bool
bits_fit (bits os unused) = list_all is_octet os && are_bits os unused
bits_fit v = false

abbrev pub is_between : ℕ → ℕ → ℕ → Bool
is_between low high c = nat_le low c && nat_le c high

-- letters, digits, space and '()+,-./:=?
abbrev pub is_printable : ℕ → Bool
is_printable c =
    is_between 65 90 c || is_between 97 122 c || is_between 43 58 c || is_between 39 41 c || nat_eq c 32 || nat_eq c 61 || nat_eq c 63

-- the characters of a kind of text (X.680 41); those of UTF8String are not judged octet by octet
abbrev pub is_character : TextKind → ℕ → Bool
is_character Utf8 c = true
is_character Ia5 c = nat_lt c 128
is_character Visible c = is_between 32 126 c
is_character Printable c = is_printable c
is_character Numeric c = is_between 48 57 c || nat_eq c 32

abbrev pub is_text : TextKind → List ℕ → Bool
is_text Utf8 os = is_utf8 os
is_text Ia5 os = list_all (is_character Ia5) os
is_text Visible os = list_all (is_character Visible) os
is_text Printable os = list_all (is_character Printable) os
is_text Numeric os = list_all (is_character Numeric) os

abbrev pub text_fits : TextKind → Value → Bool
text_fits kind (text os) = list_all is_octet os && is_text kind os
text_fits kind v = false

-- ---- values inside

-- A part is there unless it may be absent, and fits if it is there and hasn't the default's value, for which the absent
-- part stands.
abbrev pub part_fits : (ℕ → Value → Bool) → Part → Option Value → Bool
part_fits inner p None = may_be_absent p
part_fits inner p (Some v) = not (is_default p.default v) && inner p.inner.0 v

-- as many parts as the row has
abbrev pub parts_fit : (ℕ → Value → Bool) → List Part → MaybeValues → Bool
parts_fit inner [] no_parts = true
parts_fit inner (p ∷ ps) (absent vs) = part_fits inner p None && parts_fit inner ps vs
parts_fit inner (p ∷ ps) (present v vs) = part_fits inner p (Some v) && parts_fit inner ps vs
parts_fit inner ps vs = false

abbrev pub sequence_fits : (MaybeValues → Bool) → Value → Bool
sequence_fits fit (parts vs) = fit vs
sequence_fits fit v = false

abbrev pub values_fit : (Value → Bool) → Values → Bool
values_fit fit no_values = true
values_fit fit (value v vs) = fit v && values_fit fit vs

abbrev pub list_fits : (Value → Bool) → Value → Bool
list_fits fit (list vs) = values_fit fit vs
list_fits fit v = false

abbrev pub alternative_fits : (ℕ → Value → Bool) → Option Part → Value → Bool
alternative_fits inner None v = false
alternative_fits inner (Some p) v = inner p.inner.0 v

-- the alternative is there, and its value fits
abbrev pub choice_fits : (ℕ → Value → Bool) → Value → Bool
choice_fits fit (chosen which v) = fit which v
choice_fits fit v = false

abbrev pub any_fits : Value → Bool
any_fits (any os) = is_whole os
any_fits v = false

-- from how values of the rows are spelled in DER, and which have their form
abbrev pub form_by : (ℕ → Value → List ℕ) → (ℕ → Value → Bool) → TypeRow → Value → Bool
form_by spell inner row.Boolean v = boolean_fits v
form_by spell inner (row.Integer low high) v = integer_fits low high v
form_by spell inner (row.Enumerated items) v = enumerated_fits items v
form_by spell inner row.Null v = null_fits v
form_by spell inner (row.OctetString most) v = octets_fit most v
form_by spell inner row.BitString v = bits_fit v
form_by spell inner row.ObjectId v = object_id_fits v
form_by spell inner (row.Text kind) v = text_fits kind v
form_by spell inner (row.Sequence ps) v = sequence_fits (parts_fit inner ps) v
form_by spell inner (row.Set ps) v = sequence_fits (parts_fit inner ps) v
form_by spell inner (row.SequenceOf of) v = list_fits (inner of.0) v
form_by spell inner (row.SetOf of) v = list_fits (inner of.0) v && set_rises (spell of.0) v
form_by spell inner (row.Choice ps) v = choice_fits (λ which. alternative_fits inner (slice_get ps which)) v
form_by spell inner (row.Tagged class number explicit of) v = inner of.0 v
form_by spell inner row.Any v = any_fits v

abbrev pub nothing_fits : Value → Bool
nothing_fits v = false

-- a value has the form of row n of a table
unfoldable pub has_form : List TypeRow → ℕ → Value → Bool
has_form rows n = along nothing_fits (form_by (written rows)) rows (length rows) n

-- so many octets may a spelling have of a value that fits
abbrev pub is_short : ℕ → Bool
is_short n = nat_le n most_spelled

-- A value fits if it has the form of its row and neither its DER spelling nor its packed one is too long.
unfoldable pub fits : List TypeRow → ℕ → Value → Bool
fits rows n v = has_form rows n v && (is_short (length (written rows n v)) && is_short (packed_size rows n v))
