-- Numbers that fit rows of INTEGER.
use Rattle.std.proofs.Common.{◌≡◌, ℕ, ◌^◌, ◌≤◌, ◌<◌, true, refl, arith}
use Rattle.std.specs.Prelude.{ℤ, pos, negsuc}
use Rattle.std.proofs.lemmas.Bool.{lt-ltb, le-ltb, ltb-true}
use Rattle.asn1_types.specs.Fits.{is_number, integer_fits}
use Rattle.asn1_types.specs.Value.{integer}

pub natural_fits : (high n : ℕ) → n ≤ high → high < 2 ^ 63 → integer_fits (pos 0) (pos high) (integer (pos n)) ≡ true
natural_fits high n le small =
    let here : n < 2 ^ 63 = omega arith in
    rw (lt-ltb n (2 ^ 63) here, le-ltb n 0 (omega arith), le-ltb high n le) refl

pub number_fits : (z : ℤ) → is_number z ≡ true → integer_fits (negsuc 9223372036854775807) (pos 9223372036854775807) (integer z) ≡ true
number_fits (pos n) h =
    let small = ltb-true n (2 ^ 63) h in
    let le : n ≤ 9223372036854775807 = omega arith in
    rw (h, le-ltb 9223372036854775807 n le) refl
number_fits (negsuc n) h =
    let small = ltb-true n (2 ^ 63) h in
    let le : n ≤ 9223372036854775807 = omega arith in
    rw (h, le-ltb 9223372036854775807 n le) refl

pub range_fits : (low high n : ℕ) → low ≤ n → n ≤ high → high < 2 ^ 63 → integer_fits (pos low) (pos high) (integer (pos n)) ≡ true
range_fits low high n ge le small =
    let here : n < 2 ^ 63 = omega arith in
    rw (lt-ltb n (2 ^ 63) here, le-ltb n low ge, le-ltb high n le) refl
