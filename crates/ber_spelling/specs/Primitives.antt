-- The contents of primitive values.
use Rattle.std.specs.Prelude.{ℕ, suc, ◌+◌, ◌-◌, ◌*◌, ◌^◌, min, ℤ, pos, negsuc, Bool, true, false, not, ◌&&◌, ◌||◌, Option, Some, None, List, [], ◌∷◌, length, nat_lt, nat_le, nat_eq, slice_index, if◌then◌else◌}
use Rattle.std.specs.List.{list_all}
use Rattle.osi_base.specs.Oid.{is_oid}
use Rattle.asn1_types.specs.Whole.{number_256}
use Rattle.asn1_types.specs.Fits.{has_32_bits}

-- ---- INTEGER and ENUMERATED (X.690 8.3, 8.4)

-- the first nine bits are all zero or all one (X.690 8.3.2)
abbrev pub is_padded : List ℕ → Bool
is_padded [] = false
is_padded (first ∷ []) = false
is_padded (first ∷ second ∷ octets) = (nat_eq first 0 && nat_lt second 128) || (nat_eq first 255 && nat_le 128 second)

-- two's complement (X.690 8.3.3): bit 8 of the first octet counts negative
abbrev pub signed_of : List ℕ → ℤ
signed_of octets =
    if nat_lt (slice_index octets 0) 128 then pos (number_256 0 octets)
    else negsuc (256 ^ length octets - suc (number_256 0 octets))

abbrev pub is_integer : List ℕ → Bool
is_integer octets = nat_le 1 (length octets) && nat_le (length octets) 8 && not (is_padded octets)

-- the number of 1 to 8 octets without padding
unfoldable pub integer_of : List ℕ → Option ℤ
integer_of octets = if is_integer octets then Some (signed_of octets) else None

-- ---- OBJECT IDENTIFIER (X.690 8.19)

-- numbers that are no arc are all one
abbrev pub sized : ℕ → ℕ
sized n = min n (2 ^ 40)

-- The subidentifiers: of each, seven bits an octet, with bit 8 set in all but the last and no leading `80`.
-- Behind `number`, the digits of a subidentifier so far; `begun` says that there are some.
abbrev pub push_front : ℕ → Option (List ℕ) → Option (List ℕ)
push_front n None = None
push_front n (Some ns) = Some (n ∷ ns)

abbrev pub subidentifiers_of : ℕ → Bool → List ℕ → Option (List ℕ)
subidentifiers_of number begun [] = if begun then None else Some []
subidentifiers_of number begun (digit ∷ digits) =
    if nat_eq digit 128 && not begun then None
    else (if nat_lt digit 128 then push_front (sized (128 * number + digit)) (subidentifiers_of 0 false digits)
    else subidentifiers_of (sized (128 * number + (digit - 128))) true digits)

-- the first subidentifier is of the first two arcs (X.690 8.19.4)
abbrev pub arcs_from : List ℕ → List ℕ
arcs_from [] = []
arcs_from (first ∷ more) =
    if nat_lt first 40 then 0 ∷ first ∷ more
    else (if nat_lt first 80 then 1 ∷ (first - 40) ∷ more else 2 ∷ (first - 80) ∷ more)

abbrev pub judged_arcs : Option (List ℕ) → Option (List ℕ)
judged_arcs None = None
judged_arcs (Some ns) = if list_all has_32_bits (arcs_from ns) && is_oid (arcs_from ns) then Some (arcs_from ns) else None

unfoldable pub arcs_of : List ℕ → Option (List ℕ)
arcs_of octets = judged_arcs (subidentifiers_of 0 false octets)
