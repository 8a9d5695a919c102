-- Lengths that are cut off past the limit of a transfer.
use Rattle.std.proofs.Common.{◌≡◌, ℕ, ◌+◌, min, nat_lt, List, ◌++◌, length, ap, ◌∙◌, arith, length-append}
use Rattle.std.proofs.lemmas.Bool.Decides.{nat_tests}

cut : (a b : ℕ) → nat_lt 262400 (min a 262401 + min 262401 b) ≡ nat_lt 262400 (a + b)
cut a b = grind (arith, nat_tests)

pub too_many : (xs ys : List ℕ) → nat_lt 262400 (min (length xs) 262401 + min 262401 (length ys)) ≡ nat_lt 262400 (length (xs ++ ys))
too_many xs ys = cut (length xs) (length ys) ∙ ap (nat_lt 262400) (sum xs ys)
  where
    sum : (xs ys : List ℕ) → length xs + length ys ≡ length (xs ++ ys)
    sum xs ys = omega (arith, length-append xs ys)

pub one_more : (len : ℕ) (xs ys : List ℕ) → min 262401 (min (len + min (length xs) 262401) 262401 + length ys) ≡ min 262401 (len + length (xs ++ ys))
one_more len xs ys = omega (arith, length-append xs ys)
