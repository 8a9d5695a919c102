-- The fields of values. A value of a table's row has the shape that the row asks for; of other values, which no octets
-- spell, what is said here means nothing.
use Rattle.std.specs.Prelude.{ℕ, zero, suc, ◌^◌, ℤ, pos, negsuc, List, [], ◌∷◌, Option, Some, None, nat_lt, if◌then◌else◌}
use Rattle.osi_base.specs.declared.bit_string.BitString as strings
use Rattle.asn1_types.specs.Value.{Value, integer, octets, bits, object_id, parts, list, chosen, any, MaybeValues, no_parts, absent, present, Values, no_values, value}

abbrev pub nth_part : MaybeValues → ℕ → Option Value
nth_part no_parts n = None
nth_part (absent vs) zero = None
nth_part (absent vs) (suc n) = nth_part vs n
nth_part (present v vs) zero = Some v
nth_part (present v vs) (suc n) = nth_part vs n

-- the part at a place of a SEQUENCE or SET, if it stands
abbrev pub part_in : ℕ → Option Value → Option Value
part_in n (Some (parts vs)) = nth_part vs n
part_in n v = None

-- the number of an INTEGER, or another where there is none
abbrev pub number_or : ℤ → Option Value → ℤ
number_or z (Some (integer n)) = n
number_or z v = z

-- a number of 32 bits
abbrev pub natural_in : ℤ → ℕ
natural_in (pos n) = if nat_lt n (2 ^ 32) then n else 0
natural_in (negsuc n) = 0

abbrev pub small_or : ℤ → Option Value → ℕ
small_or z v = natural_in (number_or z v)

-- a number of 8 bits
abbrev pub octet_of : ℤ → ℕ
octet_of (pos n) = if nat_lt n 256 then n else 0
octet_of (negsuc n) = 0

abbrev pub octet_or : ℤ → Option Value → ℕ
octet_or z v = octet_of (number_or z v)

-- the octets of an OCTET STRING or of one whole value
abbrev pub maybe_octets : Option Value → Option (List ℕ)
maybe_octets (Some (octets os)) = Some os
maybe_octets (Some (any os)) = Some os
maybe_octets v = None

abbrev pub octets_or_none : Option (List ℕ) → List ℕ
octets_or_none None = []
octets_or_none (Some os) = os

abbrev pub octets_in : Option Value → List ℕ
octets_in v = octets_or_none (maybe_octets v)

-- which alternative of a CHOICE stands, and its value
abbrev pub alternative : Option Value → ℕ
alternative (Some (chosen which v)) = which
alternative v = 0

abbrev pub inside : Option Value → Option Value
inside (Some (chosen which v)) = Some v
inside v = None

-- the arcs of an OBJECT IDENTIFIER
abbrev pub maybe_arcs : Option Value → Option (List ℕ)
maybe_arcs (Some (object_id arcs)) = Some arcs
maybe_arcs v = None

abbrev pub arcs_or : Option (List ℕ) → List ℕ
arcs_or None = 0 ∷ 0 ∷ []
arcs_or (Some arcs) = arcs

abbrev pub arcs_in : Option Value → List ℕ
arcs_in v = arcs_or (maybe_arcs v)

abbrev pub maybe_bits : Option Value → Option strings.BitString
maybe_bits (Some (bits os unused)) = Some (record { octets = os; unused = unused })
maybe_bits v = None

-- the value of a BIT STRING
abbrev pub bits_value : strings.BitString → Value
bits_value string = bits string.octets string.unused

abbrev pub values_list : Values → List Value
values_list no_values = []
values_list (value v vs) = v ∷ values_list vs

-- the items of a SEQUENCE OF; none where it doesn't stand
abbrev pub items_in : Option Value → List Value
items_in (Some (list vs)) = values_list vs
items_in v = []
