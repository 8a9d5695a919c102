-- One whole value of any type, as octets (X.690 8.1): an identifier, a definite length and that many octets, or an
-- indefinite length, whole values and end-of-contents.
use Rattle.std.specs.Prelude.{ℕ, zero, suc, ◌-◌, ◌*◌, ◌+◌, ◌/◌, ◌%◌, Bool, true, false, ◌&&◌, ◌||◌, Option, Some, None, option_and_then, List, [], ◌∷◌, length, take, drop, nat_lt, nat_le, nat_eq, if◌then◌else◌}
use Rattle.osi_base.specs.Limits.{most_levels}

-- the number that octets are, the most significant first
abbrev pub number_256 : ℕ → List ℕ → ℕ
number_256 number [] = number
number_256 number (octet ∷ octets) = number_256 (256 * number + octet) octets

-- what stands behind the digits of a tag number: bit 8 is set in all but the last (X.690 8.1.2.4.2)
abbrev pub behind_digits : List ℕ → Option (List ℕ)
behind_digits [] = None
behind_digits (digit ∷ digits) =
    if nat_lt digit 128 then Some digits else (if nat_lt digit 256 then behind_digits digits else None)

-- the number is 31 or more, and has no leading zero digit
abbrev pub behind_high : List ℕ → Option (List ℕ)
behind_high [] = None
behind_high (digit ∷ digits) = if nat_lt digit 31 || nat_eq digit 128 then None else behind_digits (digit ∷ digits)

-- what stands behind an identifier of any class and number but UNIVERSAL 0 (X.690 8.1.2)
abbrev pub behind_identifier : List ℕ → Option (List ℕ)
behind_identifier [] = None
behind_identifier (first ∷ rest) =
    if nat_eq first 0 || nat_eq first 32 || nat_le 256 first then None
    else (if nat_eq (first % 32) 31 then behind_high rest else Some rest)

-- so many octets, and what stands behind them
abbrev pub behind_octets : ℕ → List ℕ → Option (List ℕ)
behind_octets count rest = if nat_le count (length rest) then Some (drop count rest) else None

-- the long form: 1 to 8 octets of the number (X.690 8.1.3.5)
abbrev pub behind_counted : ℕ → List ℕ → Option (List ℕ)
behind_counted size rest =
    if nat_le 1 size && nat_le size 8 && nat_le size (length rest) then behind_octets (number_256 0 (take size rest)) (drop size rest) else None

-- a definite length, and that many octets (X.690 8.1.3.3)
abbrev pub behind_sized : List ℕ → Option (List ℕ)
behind_sized [] = None
behind_sized (first ∷ rest) = if nat_lt first 128 then behind_octets first rest else behind_counted (first - 128) rest

-- an identifier of a constructed value (X.690 8.1.2.5)
abbrev pub is_constructed : List ℕ → Bool
is_constructed [] = false
is_constructed (first ∷ rest) = nat_eq (first / 32 % 2) 1

-- an indefinite length (X.690 8.1.3.6)
abbrev pub is_marked : List ℕ → Bool
is_marked [] = false
is_marked (first ∷ rest) = nat_eq first 128

-- end-of-contents (X.690 8.1.5)
abbrev pub is_ended : List ℕ → Bool
is_ended [] = false
is_ended (first ∷ []) = false
is_ended (first ∷ second ∷ rest) = nat_eq first 0 && nat_eq second 0

-- values one after the other, and end-of-contents; each has an octet at least, so that as many turns as there are
-- octets are enough
unfoldable pub behind_values : (List ℕ → Option (List ℕ)) → ℕ → List ℕ → Option (List ℕ)
behind_values behind zero octets = None
behind_values behind (suc turns) octets =
    if is_ended octets then Some (drop 2 octets) else option_and_then (behind_values behind turns) (behind octets)

abbrev pub behind_length : (List ℕ → Option (List ℕ)) → Bool → List ℕ → Option (List ℕ)
behind_length behind constructed rest =
    if is_marked rest && constructed then behind_values behind (length (drop 1 rest)) (drop 1 rest) else behind_sized rest

-- what stands behind one whole value; indefinite contents have a level less
unfoldable pub behind_whole : ℕ → List ℕ → Option (List ℕ)
behind_whole zero octets = None
behind_whole (suc inner) octets = option_and_then (behind_length (behind_whole inner) (is_constructed octets)) (behind_identifier octets)

abbrev pub is_nothing : Option (List ℕ) → Bool
is_nothing None = false
is_nothing (Some []) = true
is_nothing (Some (octet ∷ rest)) = false

-- levels are counted from 1 on
unfoldable pub is_whole : List ℕ → Bool
is_whole octets = is_nothing (behind_whole most_levels octets)
