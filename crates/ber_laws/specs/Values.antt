-- Whole values, and BIT STRINGs inside values.
use Rattle.std.specs.Prelude.{◌≡◌, ℕ, ◌⊎◌, List}
use Rattle.asn1_types.specs.Value.{Value, boolean, integer, null, octets, bits, object_id, text, parts, list, chosen, any, MaybeValues, no_parts, absent, present, Values, no_values, value}
use Rattle.ber_spelling.specs.Spelling.{IsWhole}

-- one whole value of any type, with however many values inside one another (X.690 8.1)
abbrev pub IsValue : List ℕ → Type 0
IsValue spelled = (levels : ℕ) × IsWhole levels spelled

-- A BIT STRING of these octets and this many unused bits is the value, or stands in one of its parts or items, or in the
-- value of its alternative. What an `Any` holds is octets.
abbrev mutual
  pub HasBits : List ℕ → ℕ → Value → Type 0
  HasBits os unused (boolean b) = ⊥
  HasBits os unused (integer z) = ⊥
  HasBits os unused null = ⊥
  HasBits os unused (octets others) = ⊥
  HasBits os unused (bits held count) = (held ≡ os) × (count ≡ unused)
  HasBits os unused (object_id arcs) = ⊥
  HasBits os unused (text others) = ⊥
  HasBits os unused (parts vs) = PartsHaveBits os unused vs
  HasBits os unused (list vs) = ItemsHaveBits os unused vs
  HasBits os unused (chosen which v) = HasBits os unused v
  HasBits os unused (any others) = ⊥

  pub PartsHaveBits : List ℕ → ℕ → MaybeValues → Type 0
  PartsHaveBits os unused no_parts = ⊥
  PartsHaveBits os unused (absent vs) = PartsHaveBits os unused vs
  PartsHaveBits os unused (present v vs) = HasBits os unused v ⊎ PartsHaveBits os unused vs

  pub ItemsHaveBits : List ℕ → ℕ → Values → Type 0
  ItemsHaveBits os unused no_values = ⊥
  ItemsHaveBits os unused (value v vs) = HasBits os unused v ⊎ ItemsHaveBits os unused vs
