-- Numbers that are read digit by digit.
use Rattle.std.proofs.Common.{◌≡◌, ℕ, ◌+◌, ◌-◌, ◌*◌, ◌^◌, ◌<◌, ◌≤◌, Bool, true, false, None, Some, List, [], ◌∷◌, length, drop, get_or, refl, arith, drop-cons, add-one, if◌then◌else◌}
use Rattle.std.proofs.Math.ListN.{drop_of_length-le}
use Rattle.std.proofs.lemmas.Bool.Decides.{nat_tests}
use Rattle.value_text.specs.Numbers.{is_digit, digits_after, kept_below, below, lengthened}

past : (limit n : ℕ) → limit ≤ n → kept_below limit n ≡ None
past limit n h = grind (arith, nat_tests)

kept : (limit n : ℕ) → n < limit → kept_below limit n ≡ Some n
kept limit n h = grind (arith, nat_tests)

-- a number that isn't kept is past the limit, and one that is kept isn't changed
kept_cases : (limit n : ℕ) (m : ℕ) → kept_below limit n ≡ Some m → n ≡ m
kept_cases limit n m h = grind (arith, nat_tests)

lost : (limit n : ℕ) → kept_below limit n ≡ None → limit ≤ n
lost limit n h = grind (arith, nat_tests)

large_step : (limit m : ℕ) (digits : List ℕ) (b : Bool) → below limit (digits_after m digits) ≡ None
    → below limit (if b then digits_after m digits else None) ≡ None
large_step limit m digits true more = more
large_step limit m digits false more = refl

-- what begins past a limit stays there
large : (limit n : ℕ) (digits : List ℕ) → limit ≤ n → below limit (digits_after n digits) ≡ None
large limit n [] h = past limit n h
large limit n (digit ∷ digits) h =
    large_step limit (n * 10 + (digit - 48)) digits (is_digit digit) (large limit (n * 10 + (digit - 48)) digits (omega arith))

none_step : (m : ℕ) (digits : List ℕ) (b : Bool) → (if b then kept_below (2 ^ 64) m else None) ≡ None
    → below (2 ^ 64) (if b then digits_after m digits else None) ≡ None
none_step m digits true h = large (2 ^ 64) m digits (lost (2 ^ 64) m h)
none_step m digits false h = refl

some_step : (m k : ℕ) (digits : List ℕ) (b : Bool) → (if b then kept_below (2 ^ 64) m else None) ≡ Some k
    → below (2 ^ 64) (if b then digits_after m digits else None) ≡ below (2 ^ 64) (digits_after k digits)
some_step m k digits true h = rw (kept_cases (2 ^ 64) m k h) refl
some_step m k digits false h = cc

dropped : (text : List ℕ) (i : ℕ) → i < length text → drop i text ≡ get_or text i 0 ∷ drop (i + 1) text
dropped text i h = rw (add-one, drop-cons text i 0) refl

pub read_none : (n : ℕ) (text : List ℕ) (i : ℕ) → i < length text → lengthened n (get_or text i 0) ≡ None
    → below (2 ^ 64) (digits_after n (drop i text)) ≡ None
read_none n text i h none = rw (dropped text i h) (none_step (n * 10 + (get_or text i 0 - 48)) (drop (i + 1) text) (is_digit (get_or text i 0)) none)

pub read_some : (n m : ℕ) (text : List ℕ) (i : ℕ) → i < length text → lengthened n (get_or text i 0) ≡ Some m
    → below (2 ^ 64) (digits_after n (drop i text)) ≡ below (2 ^ 64) (digits_after m (drop (i + 1) text))
read_some n m text i h some = rw (dropped text i h) (some_step (n * 10 + (get_or text i 0 - 48)) m (drop (i + 1) text) (is_digit (get_or text i 0)) some)

pub read_end : (n : ℕ) (text : List ℕ) (i : ℕ) → length text ≤ i → n < 2 ^ 64 → below (2 ^ 64) (digits_after n (drop i text)) ≡ Some n
read_end n text i h small = rw (drop_of_length-le text h) (kept (2 ^ 64) n small)
