-- Decimal numbers of texts.
use Rattle.std.specs.Prelude.{ℕ, zero, suc, ℤ, pos, negsuc, ◌+◌, ◌-◌, ◌*◌, ◌^◌, ◌==◌, nat_le, nat_lt, Bool, true, false, not, ◌&&◌, if◌then◌else◌, List, [], ◌∷◌, Option, None, Some, option_map, option_and_then}

abbrev pub is_digit : ℕ → Bool
is_digit octet = nat_le 48 octet && nat_le octet 57

-- one octet at least, and no leading zero
abbrev pub leads_well : List ℕ → Bool
leads_well [] = false
leads_well (first ∷ []) = true
leads_well (first ∷ second ∷ more) = not (first == 48)

-- the number of these digits after others that make n
abbrev pub digits_after : ℕ → List ℕ → Option ℕ
digits_after n [] = Some n
digits_after n (digit ∷ digits) = if is_digit digit then digits_after (n * 10 + (digit - 48)) digits else None

abbrev pub natural_of : List ℕ → Option ℕ
natural_of text = if leads_well text then digits_after 0 text else None

-- a number below the limit
abbrev pub kept_below : ℕ → ℕ → Option ℕ
kept_below limit n = if nat_lt n limit then Some n else None

abbrev pub below : ℕ → Option ℕ → Option ℕ
below limit None = None
below limit (Some n) = kept_below limit n

-- a number of 64 bits with one more digit at its end
abbrev pub lengthened : ℕ → ℕ → Option ℕ
lengthened n digit = if is_digit digit then kept_below (2 ^ 64) (n * 10 + (digit - 48)) else None

-- a number of 32 bits
abbrev pub number_of : List ℕ → Option ℕ
number_of text = below (2 ^ 32) (natural_of text)

-- a number of 63 bits, as invocations have
abbrev pub identifier_of : List ℕ → Option ℤ
identifier_of text = option_map pos (below (2 ^ 63) (natural_of text))

-- the opposite of a number from 1 to 2^63
abbrev pub negative : ℕ → Option ℤ
negative zero = None
negative (suc n) = option_map negsuc (kept_below (2 ^ 63) n)

-- a number of 64 bits with its sign: a `-`, or none
abbrev pub integer_of : List ℕ → Option ℤ
integer_of [] = None
integer_of (first ∷ more) = if first == 45 then option_and_then negative (natural_of more) else identifier_of (first ∷ more)
