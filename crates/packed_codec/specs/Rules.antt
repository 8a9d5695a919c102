-- What each row is read as, from what the rows that it names are read as.
use Rattle.std.specs.Prelude.{ℕ, zero, suc, ◌-◌, ℤ, Bool, true, false, not, ◌||◌, Option, Some, None, List, [], ◌∷◌, ◌++◌, length, Ok, nat_lt, nat_le, nat_eq, slice_get, if◌then◌else◌}
use Rattle.osi_base.specs.Limits.{most_items}
use Rattle.asn1_types.specs.declared.row.Part.{Part}
use Rattle.asn1_types.specs.declared.row.TextKind.{TextKind}
use Rattle.asn1_types.specs.declared.row.TypeRow.{TypeRow}
use Rattle.asn1_types.specs.declared.row.TypeRow.TheVariants as row
use Rattle.asn1_types.specs.Rows.{along}
use Rattle.asn1_types.specs.Defaults.{is_item, may_be_absent, is_default}
use Rattle.asn1_types.specs.Fits.{are_bits, is_text}
use Rattle.asn1_types.specs.Value.{Value, boolean, integer, null, octets, bits, text, parts, list, chosen}
use Rattle.asn1_types.specs.ValueView.{parts_of, values_of}
use Rattle.ber_spelling.specs.Primitives.{integer_of}
use Rattle.packed_codec.specs.Reading.{Spot, Reading, ◌>>=◌, refuse}
use Rattle.packed_codec.specs.Fields.{announced_at, octet_at, count_at}
use Rattle.packed_codec.specs.Numbers.{is_size, integer_octets}
use Rattle.asn1_types.specs.Writing.{written}
use Rattle.asn1_types.specs.Rising.{behind_last}
use Rattle.ber_spelling.specs.Rules.{in_range, object_id_rule}

-- what stands at a spot, within a limit on the octets of the whole value
abbrev pub Reader : Type 0
Reader = ℕ → Spot → Reading (Value × Spot)

-- ---- single octets, numbers and strings

-- the field at a place, if its rule makes it a value
abbrev pub some_or_refuse : ℕ → Option Value → Reading Value
some_or_refuse place None = refuse place
some_or_refuse place (Some v) = Ok v

abbrev pub boolean_rule : ℕ → Option Value
boolean_rule zero = Some (boolean false)
boolean_rule (suc zero) = Some (boolean true)
boolean_rule (suc (suc n)) = None

unfoldable pub boolean_at : Reader
boolean_at limit s = do
  o ← octet_at limit s
  v ← some_or_refuse s.place (boolean_rule o.0)
  Ok (v, o.1)

unfoldable pub null_at : Reader
null_at limit s = Ok (null, s)

-- behind a size, which is the field at a place, octets of that size, judged once whole
unfoldable pub sized_at : ℕ → ℕ → (ℕ → Bool) → (List ℕ → Option Value) → ℕ × Spot → Reading (Value × Spot)
sized_at limit place few rule n = do
  c ← announced_at limit place (few n.0) n.0 n.1
  v ← some_or_refuse n.1.place (rule c.0)
  Ok (v, c.1)

-- a size of one octet, 1 to 8; another announces nothing
unfoldable pub number_at : (List ℕ → Option Value) → Reader
number_at rule limit s = do
  n ← octet_at limit s
  if is_size n.0 then sized_at limit s.place is_size rule n else refuse s.place

unfoldable pub string_at : (ℕ → Bool) → (List ℕ → Option Value) → Reader
string_at few rule limit s = do
  n ← count_at limit s
  sized_at limit s.place few rule n

abbrev pub checked : (ℤ → Bool) → Option ℤ → Option Value
checked test None = None
checked test (Some z) = if test z then Some (integer z) else None

abbrev pub number_rule : (ℤ → Bool) → List ℕ → Option Value
number_rule test contents = checked test (integer_of contents)

abbrev pub any_size : ℕ → Bool
any_size n = true

abbrev pub at_most : ℕ → ℕ → Bool
at_most most n = nat_le n most

abbrev pub octets_rule : List ℕ → Option Value
octets_rule os = Some (octets os)

abbrev pub text_rule : TextKind → List ℕ → Option Value
text_rule kind os = if is_text kind os then Some (text os) else None

-- no bit is unused where there is no octet
abbrev pub bits_size : ℕ → ℕ → Bool
bits_size unused n = not (nat_eq n 0) || nat_eq unused 0

abbrev pub bits_rule : ℕ → List ℕ → Option Value
bits_rule unused os = if are_bits os unused then Some (bits os unused) else None

-- the number of unused bits, 0 to 7, and the octets
unfoldable pub bits_at : Reader
bits_at limit s = do
  u ← octet_at limit s
  if nat_lt u.0 8 then string_at (bits_size u.0) (bits_rule u.0) limit u.1 else refuse s.place

-- ---- values that hold values

-- how many octets the last field has of a value that a default may name: the octet of a BOOLEAN, the contents of a number
abbrev pub last_size : Value → ℕ
last_size (integer z) = length (integer_octets z)
last_size v = 1

-- the default's value is at fault, in its last field
unfoldable pub present_at : Reader → Part → ℕ → Spot → Reading (Option Value × Spot)
present_at inner p limit s = do
  v ← inner limit s
  if is_default p.default v.0 then refuse (v.1.place - last_size v.0) else Ok (Some v.0, v.1)

-- before a part that may be absent 0 where it is, 1 where it is present
abbrev pub marked_at : Reader → Part → ℕ → ℕ → ℕ × Spot → Reading (Option Value × Spot)
marked_at inner p limit place m =
    if nat_eq m.0 0 then Ok (None, m.1) else (if nat_eq m.0 1 then present_at inner p limit m.1 else refuse place)

unfoldable pub part_at : Reader → Part → ℕ → Spot → Reading (Option Value × Spot)
part_at inner p limit s =
    if may_be_absent p then (do
      m ← octet_at limit s
      marked_at inner p limit s.place m)
    else present_at inner p limit s

-- the parts in the order of the notation
unfoldable pub parts_at : (ℕ → Reader) → ℕ → Spot → List Part → Reading (List (Option Value) × Spot)
parts_at inner limit s [] = Ok ([], s)
parts_at inner limit s (p ∷ ps) = do
  x ← part_at (inner p.inner.0) p limit s
  more ← parts_at inner limit x.1 ps
  Ok (x.0 ∷ more.0, more.1)

unfoldable pub sequence_at : (ℕ → Reader) → List Part → Reader
sequence_at inner ps limit s = do
  found ← parts_at inner limit s ps
  Ok (parts (parts_of found.0), found.1)

-- that many items
unfoldable pub items_at : Reader → ℕ → ℕ → Spot → Reading (List Value × Spot)
items_at inner zero limit s = Ok ([], s)
items_at inner (suc n) limit s = do
  x ← inner limit s
  more ← items_at inner n limit x.1
  Ok (x.0 ∷ more.0, more.1)

-- the spot, once that many more items are counted
abbrev pub spent : ℕ → Spot → Spot
spent n s = record { place = s.place; rest = s.rest; left = s.left - n }

-- a count that, with those before, passes what one value may count is at fault
unfoldable pub list_at : Reader → Reader
list_at inner limit s = do
  n ← count_at limit s
  if nat_lt n.1.left n.0 then refuse s.place
      else (do
        found ← items_at inner n.0 limit (spent n.0 n.1)
        Ok (list (values_of found.0), found.1))

-- ---- SET OF: as a SEQUENCE OF, each item behind the one before

-- one item, at fault from its first octet on if it is less than the last before it, once it is whole
unfoldable pub set_item_at : (Value → List ℕ) → Reader → List Value → Reader
set_item_at spell inner before limit s = do
  v ← inner limit s
  if behind_last spell before v.0 then Ok v else refuse s.place

-- that many items behind others
unfoldable pub set_items_at : (List Value → Reader) → List Value → ℕ → ℕ → Spot → Reading (List Value × Spot)
set_items_at step before zero limit s = Ok ([], s)
set_items_at step before (suc n) limit s = do
  x ← step before limit s
  more ← set_items_at step (before ++ x.0 ∷ []) n limit x.1
  Ok (x.0 ∷ more.0, more.1)

unfoldable pub set_of_at : (Value → List ℕ) → Reader → Reader
set_of_at spell inner limit s = do
  n ← count_at limit s
  if nat_lt n.1.left n.0 then refuse s.place
      else (do
        found ← set_items_at (set_item_at spell inner) [] n.0 limit (spent n.0 n.1)
        Ok (list (values_of found.0), found.1))

abbrev pub alternative_at : (ℕ → Reader) → ℕ → ℕ → Option Part → ℕ → Spot → Reading (Value × Spot)
alternative_at inner place which None limit s = refuse place
alternative_at inner place which (Some p) limit s = do
  v ← inner p.inner.0 limit s
  Ok (chosen which v.0, v.1)

-- the alternative's place in one octet, and its value
unfoldable pub choice_at : (ℕ → Reader) → List Part → Reader
choice_at inner ps limit s = do
  o ← octet_at limit s
  alternative_at inner s.place o.0 (slice_get ps o.0) limit o.1

-- ---- each row

-- Nothing stands in the place of an `Any`, which has no packed spelling.
abbrev pub dead : Reader
dead limit s = refuse s.place

abbrev pub read_by : (ℕ → Value → List ℕ) → (ℕ → Reader) → TypeRow → Reader
read_by spell inner row.Boolean = boolean_at
read_by spell inner (row.Integer low high) = number_at (number_rule (in_range low high))
read_by spell inner (row.Enumerated items) = number_at (number_rule (is_item items))
read_by spell inner row.Null = null_at
read_by spell inner (row.OctetString most) = string_at (at_most most) octets_rule
read_by spell inner row.BitString = bits_at
read_by spell inner row.ObjectId = string_at any_size object_id_rule
read_by spell inner (row.Text kind) = string_at any_size (text_rule kind)
read_by spell inner (row.Sequence ps) = sequence_at inner ps
read_by spell inner (row.Set ps) = sequence_at inner ps
read_by spell inner (row.SequenceOf of) = list_at (inner of.0)
read_by spell inner (row.SetOf of) = set_of_at (spell of.0) (inner of.0)
read_by spell inner (row.Choice ps) = choice_at inner ps
read_by spell inner (row.Tagged class number explicit of) = inner of.0
read_by spell inner row.Any = dead

unfoldable pub reads : List TypeRow → ℕ → Reader
reads rows n = along dead (read_by (written rows)) rows (length rows) n

abbrev pub start : List ℕ → Spot
start bytes = record { place = 0; rest = bytes; left = most_items }

-- what all octets are read as: a value and how many octets it has
unfoldable pub read_at : List TypeRow → ℕ → ℕ → List ℕ → Reading (Value × ℕ)
read_at rows n limit bytes = do
  x ← reads rows n limit (start bytes)
  Ok (x.0, x.1.place)
