-- How many octets a value has in the packed syntax, by its row. (The spelling itself stands in the crate of the packed syntax,
-- with the law that it has as many octets as this says.)
use Rattle.std.specs.Prelude.{ℕ, ◌+◌, Option, Some, None, List, [], ◌∷◌, length, slice_get, if◌then◌else◌}
use Rattle.std.specs.List.{flat_map}
use Rattle.asn1_types.specs.declared.row.Part.{Part}
use Rattle.asn1_types.specs.declared.row.TypeRow.{TypeRow}
use Rattle.asn1_types.specs.declared.row.TypeRow.TheVariants as row
use Rattle.asn1_types.specs.Rows.{along}
use Rattle.asn1_types.specs.Defaults.{may_be_absent}
use Rattle.asn1_types.specs.Value.{Value, boolean, integer, octets, bits, object_id, text, parts, list, chosen, MaybeValues, no_parts, absent, present, Values, no_values, value}
use Rattle.asn1_types.specs.Writing.{base_128, integer_octets, subidentifiers}

-- a count of octets or items
abbrev pub count_size : ℕ
count_size = 4

abbrev pub boolean_size : Value → ℕ
boolean_size (boolean b) = 1
boolean_size v = 0

-- behind a size of one octet
abbrev pub number_size : Value → ℕ
number_size (integer z) = 1 + length (integer_octets z)
number_size v = 0

abbrev pub octets_size : Value → ℕ
octets_size (octets os) = count_size + length os
octets_size v = 0

abbrev pub text_size : Value → ℕ
text_size (text os) = count_size + length os
text_size v = 0

-- behind the number of unused bits
abbrev pub bits_size : Value → ℕ
bits_size (bits os unused) = 1 + (count_size + length os)
bits_size v = 0

abbrev pub object_id_size : Value → ℕ
object_id_size (object_id arcs) = count_size + length (flat_map base_128 (subidentifiers arcs))
object_id_size v = 0

-- an octet before a part that may be absent
abbrev pub mark_size : Part → ℕ
mark_size p = if may_be_absent p then 1 else 0

abbrev pub part_size : (ℕ → Value → ℕ) → Part → Option Value → ℕ
part_size inner p None = mark_size p
part_size inner p (Some v) = mark_size p + inner p.inner.0 v

abbrev pub parts_size : (ℕ → Value → ℕ) → List Part → MaybeValues → ℕ
parts_size inner [] vs = 0
parts_size inner (p ∷ ps) no_parts = 0
parts_size inner (p ∷ ps) (absent vs) = part_size inner p None + parts_size inner ps vs
parts_size inner (p ∷ ps) (present v vs) = part_size inner p (Some v) + parts_size inner ps vs

abbrev pub sequence_size : (MaybeValues → ℕ) → Value → ℕ
sequence_size size (parts vs) = size vs
sequence_size size v = 0

abbrev pub values_size : (Value → ℕ) → Values → ℕ
values_size size no_values = 0
values_size size (value v vs) = size v + values_size size vs

abbrev pub list_size : (Value → ℕ) → Value → ℕ
list_size size (list vs) = count_size + values_size size vs
list_size size v = 0

abbrev pub alternative_size : (ℕ → Value → ℕ) → Option Part → Value → ℕ
alternative_size inner None v = 0
alternative_size inner (Some p) v = 1 + inner p.inner.0 v

abbrev pub choice_size : (ℕ → Value → ℕ) → Value → ℕ
choice_size size (chosen which v) = size which v
choice_size size v = 0

abbrev pub nothing_size : Value → ℕ
nothing_size v = 0

abbrev pub size_by : (ℕ → Value → ℕ) → TypeRow → Value → ℕ
size_by inner row.Boolean = boolean_size
size_by inner (row.Integer low high) = number_size
size_by inner (row.Enumerated items) = number_size
size_by inner row.Null = nothing_size
size_by inner (row.OctetString most) = octets_size
size_by inner row.BitString = bits_size
size_by inner row.ObjectId = object_id_size
size_by inner (row.Text kind) = text_size
size_by inner (row.Sequence ps) = sequence_size (parts_size inner ps)
size_by inner (row.Set ps) = sequence_size (parts_size inner ps)
size_by inner (row.SequenceOf of) = list_size (inner of.0)
size_by inner (row.SetOf of) = list_size (inner of.0)
size_by inner (row.Choice ps) = choice_size (λ which. alternative_size inner (slice_get ps which))
size_by inner (row.Tagged class number explicit of) = inner of.0
size_by inner row.Any = nothing_size

-- how many octets the packed spelling of a value of row n of a table has; an `Any` has none
unfoldable pub packed_size : List TypeRow → ℕ → Value → ℕ
packed_size rows n = along nothing_size size_by rows (length rows) n
