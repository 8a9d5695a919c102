-- The contents of OBJECT IDENTIFIER (X.690 8.19).
use Rattle.std.specs.Prelude.{◌≡◌, ℕ, ◌<◌, ◌⊎◌, ◌++◌, length, ◌+◌, ◌/◌, ◌%◌, ◌^◌, false, ◌&&◌, Option, Some, None, List, [], ◌∷◌, nat_eq, if◌then◌else◌}
use Rattle.std.specs.List.{list_all, flat_map}
use Rattle.osi_base.specs.Oid.{is_oid}
use Rattle.asn1_types.specs.Fits.{has_32_bits}
use Rattle.asn1_types.specs.Writing.{subidentifiers}
use Rattle.ber_spelling.specs.Primitives.{arcs_from}

-- ---- read: what the contents say is `arcs_of` in `Primitives` of `ber_spelling`

-- arcs, if each has 32 bits and they are an object identifier
abbrev pub judged : List ℕ → Option (List ℕ)
judged arcs = if list_all has_32_bits arcs && is_oid arcs then Some arcs else None

-- the arcs, once one more subidentifier is read
abbrev pub joined : List ℕ → ℕ → List ℕ
joined [] n = arcs_from (n ∷ [])
joined (arc ∷ arcs) n = (arc ∷ arcs) ++ n ∷ []

-- no object identifier begins with these arcs
abbrev pub IsNoEnd : List ℕ → Type 0
IsNoEnd arcs = (list_all has_32_bits arcs ≡ false) ⊎ (32 < length arcs)

-- ---- written

-- five digits of seven bits, with bit 8 set in all but the last
abbrev pub digits_128 : ℕ → List ℕ
digits_128 n =
    (128 + n / 2 ^ 28 % 128) ∷ (128 + n / 2 ^ 21 % 128) ∷ (128 + n / 2 ^ 14 % 128) ∷ (128 + n / 2 ^ 7 % 128) ∷ (n % 128) ∷ []

-- without leading zeros
abbrev pub without_zeros : List ℕ → List ℕ
without_zeros [] = []
without_zeros (digit ∷ digits) = if nat_eq digit 128 then without_zeros digits else digit ∷ digits

-- a subidentifier of at most 35 bits (X.690 8.19.2)
unfoldable pub base_128 : ℕ → List ℕ
base_128 n = without_zeros (digits_128 n)

unfoldable pub arcs_octets : List ℕ → List ℕ
arcs_octets arcs = flat_map base_128 (subidentifiers arcs)
