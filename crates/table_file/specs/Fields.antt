-- The fields of a table file, read from the left in the packed syntax: octets, counts, truth values, texts, numbers and object identifiers.
use Rattle.std.specs.Prelude.{ℕ, zero, suc, ◌+◌, ◌<◌, ℤ, Bool, true, false, List, length, take, Result, Ok, Err, Option, Some, None, nat_lt, slice_index, if◌then◌else◌}
use Rattle.osi_base.specs.Limits.{most_spelled, past_places}
use Rattle.byteorder.specs.Endian.{big_number}
use Rattle.asn1_types.specs.declared.row.TextKind.TheVariants.{Ia5}
use Rattle.asn1_types.specs.Fits.{is_text}
use Rattle.asn1_types.specs.Value.{Value, integer, object_id}
use Rattle.packed_codec.specs.declared.fault.PackedFault.{PackedFault}
use Rattle.packed_codec.specs.declared.fault.PackedFault.TheVariants as packed
use Rattle.packed_codec.specs.Rules.{read_at, spent}
use Rattle.packed_codec.specs.Fields.{moved}
use Rattle.packed_codec.specs.Reading.{Spot}
use Rattle.table_file.specs.declared.fault.Stop.{Stop}
use Rattle.table_file.specs.declared.fault.Stop.TheVariants.{Cut, Bad, NoMemory}
use Rattle.table_file.specs.FieldTypes.{field_types}
use Rattle.table_file.specs.Reading.{Reading, ◌>>=◌, refuse, fold_at}

unfoldable pub octets_at : ℕ → Spot → Reading (List ℕ × Spot)
octets_at n s = if nat_lt (length s.rest) n then Err Cut else Ok (take n s.rest, moved n s)

unfoldable pub octet_at : Spot → Reading (ℕ × Spot)
octet_at s = do
  f ← octets_at 1 s
  Ok (slice_index f.0 0, f.1)

-- a count has four octets, the most significant first
unfoldable pub count_at : Spot → Reading (ℕ × Spot)
count_at s = do
  f ← octets_at 4 s
  Ok (big_number 4 f.0, f.1)

-- how many items a list has; a count that, with those before, passes what one value may count is at fault
unfoldable pub counted_at : Spot → Reading (ℕ × Spot)
counted_at s = do
  n ← count_at s
  if nat_lt n.1.left n.0 then refuse s.place else Ok (n.0, spent n.0 n.1)

-- how many, and so many steps of that number, each from what the one before gave
unfoldable pub many_at : {A : Type 0} → (ℕ → A → Spot → Reading (A × Spot)) → A → Spot → Reading (A × Spot)
many_at step a s = do
  n ← counted_at s
  fold_at (step n.0) n.0 a n.1

abbrev pub truth_of : ℕ → Option Bool
truth_of zero = Some false
truth_of (suc zero) = Some true
truth_of (suc (suc n)) = None

abbrev pub judged : {A : Type 0} → ℕ → Option A → Spot → Reading (A × Spot)
judged place None s = refuse place
judged place (Some a) s = Ok (a, s)

-- a BOOLEAN, or whether a part that may be absent is there
unfoldable pub truth_at : Spot → Reading (Bool × Spot)
truth_at s = do
  o ← octet_at s
  judged s.place (truth_of o.0) o.1

-- an IA5String
unfoldable pub text_at : Spot → Reading (List ℕ × Spot)
text_at s = do
  n ← count_at s
  c ← octets_at n.0 n.1
  if is_text Ia5 c.0 then Ok c else refuse n.1.place

-- a fault's place is a number of 64 bits, also counted from where its field begins
abbrev pub IsNear : ℕ → PackedFault → Type 0
IsNear start (packed.NotSpelled place kind) = start + place < past_places
IsNear start fault = Unit {0}

-- A fault within a field stands behind where the field begins.
abbrev pub stop_of : ℕ → PackedFault → Stop
stop_of start (packed.NotSpelled place kind) = Bad (start + place)
stop_of start packed.Short = Cut
stop_of start (packed.TooLong place) = Cut
stop_of start packed.NoMemory = NoMemory

abbrev pub shifted : Spot → Result (Value × ℕ) PackedFault → Reading (Value × Spot)
shifted s (Ok x) = Ok (x.0, moved x.1 s)
shifted s (Err e) = Err (stop_of s.place e)

-- a value in the packed syntax
unfoldable pub value_at : ℕ → Spot → Reading (Value × Spot)
value_at of s = shifted s (read_at field_types of most_spelled s.rest)

abbrev pub number_in : Value → Option ℤ
number_in (integer z) = Some z
number_in v = None

abbrev pub arcs_in : Value → Option (List ℕ)
arcs_in (object_id arcs) = Some arcs
arcs_in v = None

-- an INTEGER
unfoldable pub integer_at : Spot → Reading (ℤ × Spot)
integer_at s = do
  v ← value_at 0 s
  judged s.place (number_in v.0) v.1

-- an OBJECT IDENTIFIER
unfoldable pub object_id_at : Spot → Reading (List ℕ × Spot)
object_id_at s = do
  v ← value_at 1 s
  judged s.place (arcs_in v.0) v.1
