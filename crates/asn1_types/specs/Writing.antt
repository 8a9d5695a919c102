-- The DER spelling of each value that fits a row (X.690 8 and 10), as a function.
use Rattle.std.specs.Prelude.{ℕ, zero, suc, ◌+◌, ◌-◌, ◌*◌, ◌/◌, ◌%◌, ℤ, pos, negsuc, Bool, true, false, Option, Some, None, List, [], ◌∷◌, ◌++◌, map, length, min, ◌^◌, nat_lt, nat_eq, slice_get, if◌then◌else◌}
use Rattle.std.specs.List.{flat_map}
use Rattle.asn1_types.specs.declared.row.Class.{Class}
use Rattle.asn1_types.specs.declared.row.Class.TheVariants.{Universal}
use Rattle.asn1_types.specs.declared.row.Part.{Part}
use Rattle.asn1_types.specs.declared.row.TypeRow.{TypeRow}
use Rattle.asn1_types.specs.declared.row.TypeRow.TheVariants as row
use Rattle.asn1_types.specs.Rows.{along, text_number}
use Rattle.asn1_types.specs.Value.{Value, boolean, integer, octets, bits, object_id, text, parts, list, chosen, any, MaybeValues, no_parts, absent, present, Values, no_values, value}
use Rattle.asn1_types.specs.declared.row.Tag as tags
use Rattle.asn1_types.specs.Tags.{tag_or, leading, ranks, front_rank}

-- ---- numbers: the last digit first, put before what stands behind it

-- Digits of seven bits with bit 8 set. A number of n has at most n digits.
abbrev pub high_digits : ℕ → ℕ → List ℕ → List ℕ
high_digits zero n behind = behind
high_digits (suc turns) n behind = if nat_eq n 0 then behind else high_digits turns (n / 128) ((128 + n % 128) ∷ behind)

-- in base 128, with bit 8 set in all digits but the last (X.690 8.1.2.4.2, 8.19.2)
unfoldable pub base_128 : ℕ → List ℕ
base_128 n = high_digits (n / 128) (n / 128) ((n % 128) ∷ [])

abbrev pub digits_256 : ℕ → ℕ → List ℕ → List ℕ
digits_256 zero n behind = behind
digits_256 (suc turns) n behind = if nat_eq n 0 then behind else digits_256 turns (n / 256) ((n % 256) ∷ behind)

-- in octets, as few as hold it; none for 0
unfoldable pub base_256 : ℕ → List ℕ
base_256 n = digits_256 n n []

-- in octets, as few as hold it with bit 8 of the first clear
abbrev pub natural_octets : ℕ → ℕ → List ℕ → List ℕ
natural_octets zero n behind = n ∷ behind
natural_octets (suc turns) n behind = if nat_lt n 128 then n ∷ behind else natural_octets turns (n / 256) ((n % 256) ∷ behind)

-- two's complement (X.690 8.3.3): -1 - n is n with each bit turned
unfoldable pub integer_octets : ℤ → List ℕ
integer_octets (pos n) = natural_octets n n []
integer_octets (negsuc n) = map (λ octet. 255 - octet) (natural_octets n n [])

-- ---- fields

-- X.690 8.1.2
abbrev pub identifier : Class → Bool → ℕ → List ℕ
identifier class constructed number =
    if nat_lt number 31 then (leading class constructed + number) ∷ [] else (leading class constructed + 31) ∷ base_128 number

-- the short form below 128, else the long form in as few octets as hold it (X.690 10.1)
abbrev pub length_octets : ℕ → List ℕ
length_octets n = if nat_lt n 128 then n ∷ [] else (128 + length (base_256 n)) ∷ base_256 n

-- identifier, length, contents
abbrev pub definite : Bool → tags.Tag → List ℕ → List ℕ
definite constructed tag contents = identifier tag.class constructed tag.number ++ (length_octets (length contents) ++ contents)

-- ---- contents

-- X.690 8.19: the first two arcs make one subidentifier
abbrev pub subidentifiers : List ℕ → List ℕ
subidentifiers [] = []
subidentifiers (root ∷ []) = root ∷ []
subidentifiers (root ∷ second ∷ arcs) = (40 * root + second) ∷ arcs

abbrev pub integer_contents : Value → List ℕ
integer_contents (integer z) = integer_octets z
integer_contents v = []

-- TRUE is FF (X.690 11.1)
abbrev pub boolean_octet : Bool → ℕ
boolean_octet true = 255
boolean_octet false = 0

abbrev pub boolean_contents : Value → List ℕ
boolean_contents (boolean b) = boolean_octet b ∷ []
boolean_contents v = []

abbrev pub octets_contents : Value → List ℕ
octets_contents (octets os) = os
octets_contents v = []

abbrev pub text_contents : Value → List ℕ
text_contents (text os) = os
text_contents v = []

-- how many bits are unused stands first (X.690 8.6.2)
abbrev pub bits_contents : Value → List ℕ
bits_contents (bits os unused) = unused ∷ os
bits_contents v = []

abbrev pub object_id_contents : Value → List ℕ
object_id_contents (object_id arcs) = flat_map base_128 (subidentifiers arcs)
object_id_contents v = []

-- a value as it is written, under another tag if one is given
abbrev pub Writer : Type 0
Writer = Option tags.Tag → Value → List ℕ

abbrev pub part_contents : (ℕ → Writer) → Part → Option Value → List ℕ
part_contents inner p None = []
part_contents inner p (Some v) = inner p.inner.0 None v

-- the parts that are there, in the order of the notation
abbrev pub parts_contents : (ℕ → Writer) → List Part → MaybeValues → List ℕ
parts_contents inner [] vs = []
parts_contents inner (p ∷ ps) no_parts = []
parts_contents inner (p ∷ ps) (absent vs) = part_contents inner p None ++ parts_contents inner ps vs
parts_contents inner (p ∷ ps) (present v vs) = part_contents inner p (Some v) ++ parts_contents inner ps vs

abbrev pub sequence_contents : (MaybeValues → List ℕ) → Value → List ℕ
sequence_contents write (parts vs) = write vs
sequence_contents write v = []

-- only what has a tag of this rank
abbrev pub of_rank : ℕ → (ℕ → Writer) → ℕ → Writer
of_rank r inner n tag v = if nat_eq (front_rank (inner n tag v)) r then inner n tag v else []

-- parts by rising rank (X.690 10.3), of `many` ranks from `least` on
unfoldable pub risen_parts : (ℕ → Writer) → ℕ → ℕ → List Part → MaybeValues → List ℕ
risen_parts inner zero least ps vs = []
risen_parts inner (suc many) least ps vs = parts_contents (of_rank least inner) ps vs ++ risen_parts inner many (suc least) ps vs

unfoldable pub set_parts : (ℕ → Writer) → List Part → MaybeValues → List ℕ
set_parts inner ps vs = risen_parts inner ranks 0 ps vs

abbrev pub values_contents : Writer → Values → List ℕ
values_contents inner no_values = []
values_contents inner (value v vs) = inner None v ++ values_contents inner vs

abbrev pub list_contents : Writer → Value → List ℕ
list_contents inner (list vs) = values_contents inner vs
list_contents inner v = []

abbrev pub alternative_written : (ℕ → Writer) → Option Part → Value → List ℕ
alternative_written inner None v = []
alternative_written inner (Some p) v = inner p.inner.0 None v

abbrev pub choice_written : (ℕ → Value → List ℕ) → Value → List ℕ
choice_written write (chosen which v) = write which v
choice_written write v = []

abbrev pub any_written : Value → List ℕ
any_written (any os) = os
any_written v = []

-- ---- each row

-- Over an untagged CHOICE or an `Any` each tag is explicit.
abbrev pub under : (Value → List ℕ) → Writer
under write None v = write v
under write (Some tag) v = definite true tag (write v)

abbrev pub tagged_written : Bool → Writer → Class → ℕ → Writer
tagged_written true inner class number tag v = definite true (tag_or tag class number) (inner None v)
tagged_written false inner class number tag v = inner (Some (tag_or tag class number)) v

abbrev pub nothing_written : Writer
nothing_written tag v = []

abbrev pub write_by : (ℕ → Writer) → TypeRow → Writer
write_by inner row.Boolean tag v = definite false (tag_or tag Universal 1) (boolean_contents v)
write_by inner (row.Integer low high) tag v = definite false (tag_or tag Universal 2) (integer_contents v)
write_by inner (row.Enumerated items) tag v = definite false (tag_or tag Universal 10) (integer_contents v)
write_by inner row.Null tag v = definite false (tag_or tag Universal 5) []
write_by inner (row.OctetString most) tag v = definite false (tag_or tag Universal 4) (octets_contents v)
write_by inner row.BitString tag v = definite false (tag_or tag Universal 3) (bits_contents v)
write_by inner row.ObjectId tag v = definite false (tag_or tag Universal 6) (object_id_contents v)
write_by inner (row.Text kind) tag v = definite false (tag_or tag Universal (text_number kind)) (text_contents v)
write_by inner (row.Sequence ps) tag v = definite true (tag_or tag Universal 16) (sequence_contents (parts_contents inner ps) v)
write_by inner (row.Set ps) tag v = definite true (tag_or tag Universal 17) (sequence_contents (set_parts inner ps) v)
write_by inner (row.SequenceOf of) tag v = definite true (tag_or tag Universal 16) (list_contents (inner of.0) v)
write_by inner (row.SetOf of) tag v = definite true (tag_or tag Universal 17) (list_contents (inner of.0) v)
write_by inner (row.Choice ps) tag v = under (choice_written (λ which. alternative_written inner (slice_get ps which))) tag v
write_by inner (row.Tagged class number explicit of) tag v = tagged_written explicit (inner of.0) class number tag v
write_by inner row.Any tag v = under any_written tag v

-- Each row names only lower rows, so as many turns as there are rows are enough.
unfoldable pub writes : List TypeRow → ℕ → Writer
writes rows n = along nothing_written write_by rows (length rows) n

-- the DER spelling of a value that fits row n of a table
unfoldable pub written : List TypeRow → ℕ → Value → List ℕ
written rows n v = writes rows n None v

-- a length in 64 bits, which stands still at their end
abbrev pub saturated : ℕ → ℕ
saturated n = min n (2 ^ 64 - 1)
