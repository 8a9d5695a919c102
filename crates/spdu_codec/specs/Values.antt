-- The values of parameters (X.225 8.3).
use Rattle.std.specs.Prelude.{ℕ, ◌+◌, ◌-◌, ◌*◌, ◌==◌, ◌||◌, List, [], ◌∷◌, Option, Some, None, nat_lt, if◌then◌else◌}
use Rattle.osi_base.specs.Limits.{last_serial}

-- one octet
abbrev pub octet_of : List ℕ → Option ℕ
octet_of [] = None
octet_of (x ∷ []) = Some x
octet_of (x ∷ y ∷ xs) = None

-- two octets, the higher first
abbrev pub pair_of : List ℕ → Option ℕ
pair_of [] = None
pair_of (high ∷ []) = None
pair_of (high ∷ low ∷ []) = Some (256 * high + low)
pair_of (high ∷ low ∷ x ∷ xs) = None

-- the number that more digits make of a number, up to the last number of an activity
unfoldable pub more_digits : ℕ → List ℕ → Option ℕ
more_digits number [] = Some number
more_digits number (d ∷ ds) = if nat_lt d 48 || nat_lt 57 d || nat_lt last_serial (10 * number + (d - 48)) then None else more_digits (10 * number + (d - 48)) ds

-- decimal digits without a leading zero, 1 to 999,999
abbrev pub number_of : List ℕ → Option ℕ
number_of [] = None
number_of (d ∷ ds) = if d == 48 then None else more_digits 0 (d ∷ ds)

-- the same, or a single zero
abbrev pub mark_of : List ℕ → Option ℕ
mark_of [] = None
mark_of (d ∷ []) = if d == 48 then Some 0 else number_of (d ∷ [])
mark_of (d ∷ e ∷ ds) = number_of (d ∷ e ∷ ds)
