-- Octets that are read back.
use Rattle.std.proofs.Common.{◌≡◌, ◌==◌, ℕ, ◌+◌, ◌-◌, ◌*◌, ◌/◌, ◌%◌, ◌<◌, ◌≤◌, Bool, true, false, not, List, [], ◌∷◌, ◌++◌, length, take, drop, Some, refl, ap, sym, ◌∙◌, arith, nat_lt, nat_le, append_assoc, append-nil}
use Rattle.std.specs.List.{list_all, flat_map}
use Rattle.std.proofs.Math.Seq.{take-append_seam, drop-append_seam}
use Rattle.std.proofs.lemmas.Bool.Decides.{nat_tests}
use Rattle.asn1_types.specs.Fits.{is_octet}
use Rattle.asn1_types.specs.Value as tree
use Rattle.value_text.specs.Values.{hex_digit, hex_octet}
use Rattle.value_reading.specs.Words.{len_to}
use Rattle.osi_base.specs.Hexadecimal.{digit_of, by_digits}
use Rattle.value_reading.specs.Forms.{octets_of, by_letter, quoted_form}
use Rattle.text_laws.proofs.Tests.{both_true}
use Rattle.text_laws.proofs.Words.{until_end}

digit_back : (d : ℕ) (low : Bool) → nat_lt d 10 ≡ low → d < 16 → digit_of (hex_digit d) ≡ Some d
digit_back d true e h =
    let small : d < 10 = grind (arith, nat_tests) in
    let a : nat_le 48 (48 + d) ≡ true = grind (arith, nat_tests) in
    let b : nat_le (48 + d) 57 ≡ true = grind (arith, nat_tests) in
    let same : (48 + d) - 48 ≡ d = omega arith in
    rw (e, a, b) (ap (λ n. Some n) same)
digit_back d false e h =
    let high : 10 ≤ d = grind (arith, nat_tests) in
    let b : nat_le (65 + (d - 10)) 57 ≡ false = grind (arith, nat_tests) in
    let a : nat_le 48 (65 + (d - 10)) ≡ true = grind (arith, nat_tests) in
    let f : nat_le 65 (65 + (d - 10)) ≡ true = grind (arith, nat_tests) in
    let g : nat_le (65 + (d - 10)) 70 ≡ true = grind (arith, nat_tests) in
    let same : (65 + (d - 10)) - 65 + 10 ≡ d = omega arith in
    rw (e, a, b, f, g) (ap (λ n. Some n) same)

pub hex_back : (d : ℕ) → d < 16 → digit_of (hex_digit d) ≡ Some d
hex_back d h = digit_back d (nat_lt d 10) refl h

below_octet : (o : ℕ) → is_octet o ≡ true → o < 256
below_octet o h = grind (arith, nat_tests)

octet_back : (o : ℕ) → o < 256 → by_digits (digit_of (hex_digit (o / 16))) (digit_of (hex_digit (o % 16))) ≡ Some o
octet_back o h =
    let high : o / 16 < 16 = omega arith in
    let low : o % 16 < 16 = omega arith in
    let same : 16 * (o / 16) + o % 16 ≡ o = omega arith in
    rw (hex_back (o / 16) high, hex_back (o % 16) low) (ap (λ n. Some n) same)

pub octets_back : (done os : List ℕ) → list_all is_octet os ≡ true → octets_of done (flat_map hex_octet os) ≡ Some (done ++ os)
octets_back done [] h = ap (λ n. Some n) (sym (append-nil done))
octets_back done (o ∷ os) h =
    let p = both_true (is_octet o) (list_all is_octet os) h in
    rw (octet_back o (below_octet o p.0)) (octets_back (done ++ o ∷ []) os p.1 ∙ ap (λ n. Some n) (append_assoc done (o ∷ []) os))

-- no digit is a quote
hex_unquoted : (d : ℕ) → d < 16 → not (hex_digit d == 39) ≡ true
hex_unquoted d h = unquoted d (nat_lt d 10) refl
  where
    unquoted : (d : ℕ) (low : Bool) → nat_lt d 10 ≡ low → not (hex_digit d == 39) ≡ true
    unquoted d true e = rw e (grind (arith, nat_tests))
    unquoted d false e = rw e (grind (arith, nat_tests))

pub hex_unmarked : (os : List ℕ) → list_all is_octet os ≡ true → list_all (λ c. not (c == 39)) (flat_map hex_octet os) ≡ true
hex_unmarked [] h = refl
hex_unmarked (o ∷ os) h =
    let p = both_true (is_octet o) (list_all is_octet os) h in
    let small = below_octet o p.0 in
    let high : o / 16 < 16 = omega arith in
    let low : o % 16 < 16 = omega arith in
    rw (hex_unquoted (o / 16) high, hex_unquoted (o % 16) low) (hex_unmarked os p.1)

-- what stands between quotes, before a letter and what follows
pub quoted : (inside rest : List ℕ) (letter : ℕ) → list_all (λ c. not (c == 39)) inside ≡ true
    → let text = inside ++ 39 ∷ letter ∷ rest in quoted_form (take (len_to 39 text) text) (drop (len_to 39 text) text) ≡ by_letter inside letter rest
quoted inside rest letter h =
    let tail = 39 ∷ letter ∷ rest in
    let n : len_to 39 (inside ++ tail) ≡ length inside = until_end (λ c. c == 39) inside tail h refl in
    rw (n) (ap (λ x. quoted_form x (drop (length inside) (inside ++ tail))) (take-append_seam inside tail) ∙ ap (quoted_form inside) (drop-append_seam inside tail))
