-- Numbers that tokens write.
use Rattle.std.proofs.Common.{◌≡◌, ℕ, zero, suc, ◌^◌, ◌<◌, ◌≤◌, Bool, true, false, List, [], ◌∷◌, length, None, Result, Ok, Err, refl, arith}
use Rattle.std.specs.Prelude.{nat_le, ◌==◌, ◌&&◌, not}
use Rattle.std.specs.List.{list_all}
use Rattle.std.specs.Char.{is_ascii_digit, digit_value}
use Rattle.std.specs.Str.{IsAscii}
use Rattle.std.specs.Str.Parse.{AllDigits, digits_value, ParsesUnsigned}
use Rattle.std.proofs.lemmas.Bool.Decides.{nat_tests}
use Rattle.std.proofs.lemmas.Bool.{leb-true, and_parts}
use Rattle.std.proofs.lemmas.Str.Parse.{parse_gives, numerals_by_value, tells_digits}
use Rattle.notation_tokens.specs.Words.{is_decimal, number}

pub joined : (a b : Bool) → a ≡ true → b ≡ true → a && b ≡ true
joined a b p q = rw (p, q) refl

digit_is : (d : ℕ) → is_ascii_digit d ≡ true → digit_value d < 10
digit_is d e = grind (arith, nat_tests)

digit_low : (d : ℕ) → is_ascii_digit d ≡ true → d < 128
digit_low d e = grind (arith, nat_tests)

digits_are : (ds : List ℕ) → list_all is_ascii_digit ds ≡ true → AllDigits 10 ds
digits_are [] e = tt
digits_are (d ∷ ds) e = let h = and_parts (is_ascii_digit d) (list_all is_ascii_digit ds) e in (digit_is d h.0, digits_are ds h.1)

digits_low : (ds : List ℕ) → list_all is_ascii_digit ds ≡ true → IsAscii ds
digits_low [] e i = omega arith
digits_low (d ∷ ds) e zero = digit_low d (and_parts (is_ascii_digit d) (list_all is_ascii_digit ds) e).0
digits_low (d ∷ ds) e (suc i) = digits_low ds (and_parts (is_ascii_digit d) (list_all is_ascii_digit ds) e).1 i

decimal_digits : (text : List ℕ) → is_decimal text ≡ true → list_all is_ascii_digit text ≡ true
decimal_digits [] e = absurd cc
decimal_digits (d ∷ []) e = joined (is_ascii_digit d) true e refl
decimal_digits (d ∷ c ∷ ds) e =
    let h = and_parts (is_ascii_digit d && not (d == 48)) (list_all is_ascii_digit (c ∷ ds)) e in
    joined (is_ascii_digit d) (list_all is_ascii_digit (c ∷ ds)) (and_parts (is_ascii_digit d) (not (d == 48)) h.0).0 h.1

decimal_some : (text : List ℕ) → is_decimal text ≡ true → 0 < length text
decimal_some [] e = absurd cc
decimal_some (d ∷ ds) e = omega arith

pub decimal_ascii : (text : List ℕ) → is_decimal text ≡ true → IsAscii text
decimal_ascii text e = digits_low text (decimal_digits text e)

pub not_number : {E : Type 0} (most : ℕ) (text : List ℕ) (r : Result ℕ E) (d : E) → is_decimal text ≡ true → most < 2 ^ 64 → ParsesUnsigned 64 10 text r → r ≡ Err d → number most text ≡ None
unfolding number
not_number most text r d e lt h is = go (nat_le (digits_value 10 text) most) refl
  where
    go : (b : Bool) → nat_le (digits_value 10 text) most ≡ b → number most text ≡ None
    go true low =
        let fits : digits_value 10 text ≤ most = leb-true _ _ low in
        let ok : r ≡ Ok (digits_value 10 text) = parse_gives (numerals_by_value (AllDigits 10) tells_digits) 64 text r h (digits_are text (decimal_digits text e)) (decimal_some text e) (omega arith) in
        absurd cc
    go false high = rw (e, high) refl
