-- The packed spelling of each value, as a function. Of a value that doesn't fit its row, what doesn't fit is left out.
use Rattle.std.specs.Prelude.{◌≡◌, ℕ, suc, ◌+◌, take, drop, true, false, Option, Some, None, List, [], ◌∷◌, ◌++◌, length, slice_get, if◌then◌else◌}
use Rattle.byteorder.specs.Endian.{big_bytes}
use Rattle.asn1_types.specs.declared.row.Part.{Part}
use Rattle.asn1_types.specs.declared.row.TypeRow.{TypeRow}
use Rattle.asn1_types.specs.declared.row.TypeRow.TheVariants as row
use Rattle.asn1_types.specs.Rows.{along}
use Rattle.asn1_types.specs.Defaults.{may_be_absent}
use Rattle.asn1_types.specs.Value.{Value, boolean, integer, null, octets, bits, object_id, text, parts, list, chosen, any, MaybeValues, no_parts, absent, present, Values, no_values, value}
use Rattle.packed_codec.specs.Numbers.{integer_octets}
use Rattle.packed_codec.specs.ObjectIds.{arcs_octets}

-- a value as it is written
abbrev pub Writer : Type 0
Writer = Value → List ℕ

-- a count has four octets, the most significant first
abbrev pub counted : List ℕ → List ℕ
counted os = big_bytes 4 (length os) ++ os

abbrev pub with_size : List ℕ → List ℕ
with_size os = length os ∷ os

abbrev pub boolean_written : Writer
boolean_written (boolean true) = 1 ∷ []
boolean_written (boolean false) = 0 ∷ []
boolean_written v = []

abbrev pub number_written : Writer
number_written (integer z) = with_size (integer_octets z)
number_written v = []

abbrev pub nothing_written : Writer
nothing_written v = []

abbrev pub octets_written : Writer
octets_written (octets os) = counted os
octets_written v = []

abbrev pub text_written : Writer
text_written (text os) = counted os
text_written v = []

abbrev pub object_id_written : Writer
object_id_written (object_id arcs) = counted (arcs_octets arcs)
object_id_written v = []

-- the number of unused bits, and the octets
abbrev pub bits_written : Writer
bits_written (bits os unused) = unused ∷ counted os
bits_written v = []

-- before a part that may be absent 0 where it is, 1 where it is present
abbrev pub part_written : (ℕ → Writer) → Part → Option Value → List ℕ
part_written inner p None = if may_be_absent p then 0 ∷ [] else []
part_written inner p (Some v) = if may_be_absent p then 1 ∷ inner p.inner.0 v else inner p.inner.0 v

-- in the order of the notation
abbrev pub parts_written : (ℕ → Writer) → List Part → MaybeValues → List ℕ
parts_written inner [] vs = []
parts_written inner (p ∷ ps) no_parts = []
parts_written inner (p ∷ ps) (absent vs) = part_written inner p None ++ parts_written inner ps vs
parts_written inner (p ∷ ps) (present v vs) = part_written inner p (Some v) ++ parts_written inner ps vs

abbrev pub sequence_written : (ℕ → Writer) → List Part → Writer
sequence_written inner ps (parts vs) = parts_written inner ps vs
sequence_written inner ps v = []

abbrev pub how_many : Values → ℕ
how_many no_values = 0
how_many (value v vs) = suc (how_many vs)

abbrev pub values_written : Writer → Values → List ℕ
values_written inner no_values = []
values_written inner (value v vs) = inner v ++ values_written inner vs

-- how many items, and the items
abbrev pub list_written : Writer → Writer
list_written inner (list vs) = big_bytes 4 (how_many vs) ++ values_written inner vs
list_written inner v = []

abbrev pub alternative_written : (ℕ → Writer) → ℕ → Option Part → Value → List ℕ
alternative_written inner which None v = []
alternative_written inner which (Some p) v = which ∷ inner p.inner.0 v

-- the alternative's place from 0, and its value
abbrev pub choice_written : (ℕ → Writer) → List Part → Writer
choice_written inner ps (chosen which v) = alternative_written inner which (slice_get ps which) v
choice_written inner ps v = []

abbrev pub write_by : (ℕ → Writer) → TypeRow → Writer
write_by inner row.Boolean = boolean_written
write_by inner (row.Integer low high) = number_written
write_by inner (row.Enumerated items) = number_written
write_by inner row.Null = nothing_written
write_by inner (row.OctetString most) = octets_written
write_by inner row.BitString = bits_written
write_by inner row.ObjectId = object_id_written
write_by inner (row.Text kind) = text_written
write_by inner (row.Sequence ps) = sequence_written inner ps
write_by inner (row.Set ps) = sequence_written inner ps
write_by inner (row.SequenceOf of) = list_written (inner of.0)
write_by inner (row.SetOf of) = list_written (inner of.0)
write_by inner (row.Choice ps) = choice_written inner ps
write_by inner (row.Tagged class number explicit of) = inner of.0
write_by inner row.Any = nothing_written

-- the packed spelling of a value of row n of a table
unfoldable pub packed : List TypeRow → ℕ → Value → List ℕ
packed rows n = along nothing_written write_by rows (length rows) n

-- ---- rooms

-- a text was put at a place of a room, and what stands before and behind it is as it was
pub record IsPut (text : List ℕ) (at : ℕ) (old new : List ℕ) (next : ℕ) : Type 0 where
  pub ends : next ≡ at + length text
  pub holds : new ≡ take at old ++ (text ++ drop (at + length text) old)

-- ---- how many items the lists inside a value have together

abbrev mutual
  pub items : Value → ℕ
  items (boolean b) = 0
  items (integer z) = 0
  items null = 0
  items (octets os) = 0
  items (bits os unused) = 0
  items (object_id arcs) = 0
  items (text os) = 0
  items (parts ps) = items_of_parts ps
  items (list vs) = how_many vs + items_of_values vs
  items (chosen which v) = items v
  items (any os) = 0

  pub items_of_parts : MaybeValues → ℕ
  items_of_parts no_parts = 0
  items_of_parts (absent ps) = items_of_parts ps
  items_of_parts (present v ps) = items v + items_of_parts ps

  pub items_of_values : Values → ℕ
  items_of_values no_values = 0
  items_of_values (value v vs) = items v + items_of_values vs
