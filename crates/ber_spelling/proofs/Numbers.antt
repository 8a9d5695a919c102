-- The numbers that octets are.
use Rattle.std.proofs.Common.{◌≡◌, ℕ, zero, suc, ◌+◌, ◌-◌, ◌*◌, ◌^◌, ◌<◌, ◌≤◌, ℤ, negsuc, List, [], ◌∷◌, length, sym, ap, ◌∙◌, arith, add_assoc}
use Rattle.std.specs.Int.{cast_signed, cast_unsigned}
use Rattle.std.specs.Prelude.{slice_index}
use Rattle.std.specs.Int.{w64}
use Rattle.std.proofs.Math.Nat.{pow-le-pow_right, pow-suc, add-mul, mul_assoc, mul_comm, mul-le-mul_right}
use Rattle.std.proofs.lemmas.Bool.{le-ltb, lt-ltb}
use Rattle.std.proofs.lemmas.Int.{to_z_pos, of_z-to_z}
use Rattle.asn1_types.specs.Whole.{number_256}
use Rattle.osi_base.specs.Octets.{AreOctets}
use Rattle.osi_base.proofs.OctetLaws.{octets_tail}
use Rattle.ber_spelling.specs.Primitives.{signed_of}

pub regroup : (n o p : ℕ) → (256 * n + o) * p ≡ 256 * (n * p) + o * p
regroup n o p = add-mul (256 * n) o p ∙ ap (λ (k : ℕ). k + o * p) (mul_assoc 256 n p)

pub out : (n p : ℕ) → n * (p * 256) ≡ 256 * (n * p)
out n p = sym (mul_assoc n p 256) ∙ mul_comm (n * p) 256

low_step : (n o p : ℕ) → n * (p * 256) ≤ (256 * n + o) * p
low_step n o p = omega (arith, regroup n o p, out n p)

high_step : (n o p : ℕ) → o < 256 → (256 * n + o + 1) * p ≤ (n + 1) * (p * 256)
high_step n o p lt =
    let a : (256 * n + o + 1) * p ≡ 256 * (n * p) + (o + 1) * p = ap (λ (k : ℕ). k * p) (add_assoc (256 * n) o 1) ∙ regroup n (o + 1) p in
    let b : (n + 1) * (p * 256) ≡ 256 * ((n + 1) * p) = out (n + 1) p in
    let d : (n + 1) * p ≡ n * p + 1 * p = add-mul n 1 p in
    let e : 1 * p ≡ p = omega arith in
    let f : (o + 1) * p ≤ 256 * p = mul-le-mul_right p (omega arith) in
    omega arith

pub number_low : (n : ℕ) (os : List ℕ) → n * 256 ^ length os ≤ number_256 n os
number_low n [] = omega arith
number_low n (o ∷ os) =
    let p = pow-suc 256 (length os) in
    let more : (256 * n + o) * 256 ^ length os ≤ number_256 (256 * n + o) os = number_low (256 * n + o) os in
    rw p (omega (arith, low_step n o (256 ^ length os)))

pub number_high : (n : ℕ) (os : List ℕ) → AreOctets os → number_256 n os < (n + 1) * 256 ^ length os
number_high n [] h = omega arith
number_high n (o ∷ os) h =
    let more : number_256 (256 * n + o) os < (256 * n + o + 1) * 256 ^ length os = number_high (256 * n + o) os (octets_tail o os h) in
    let p = pow-suc 256 (length os) in
    let lt : o < 256 = h.each 0 in
    rw p (omega (arith, high_step n o (256 ^ length os) lt))

-- ---- two's complement

pub few_256 : (len : ℕ) → len ≤ 8 → 256 ^ len ≤ 2 ^ 64
few_256 len le =
    let some : zero < 256 = omega arith in
    pow-le-pow_right some le

few_128 : (len : ℕ) → len ≤ 7 → 128 * 256 ^ len ≤ 2 ^ 63
few_128 len le =
    let some : zero < 256 = omega arith in
    let most : 256 ^ len ≤ 256 ^ 7 = pow-le-pow_right some le in
    omega arith

pub number_below : (os : List ℕ) → AreOctets os → length os ≤ 8 → number_256 0 os < 2 ^ 64
number_below os h le = omega (arith, number_high 0 os h, few_256 (length os) le)

-- the first octet tells where the number lies
pub number_small : (os : List ℕ) → AreOctets os → 1 ≤ length os → length os ≤ 8 → slice_index os 0 < 128 → number_256 0 os < 2 ^ 63
number_small [] h some le lt = absurd (omega arith)
number_small (o ∷ os) h some le lt =
    let high : number_256 (256 * 0 + o) os < (256 * 0 + o + 1) * 256 ^ length os = number_high (256 * 0 + o) os (octets_tail o os h) in
    let cap : (256 * 0 + o + 1) * 256 ^ length os ≤ 128 * 256 ^ length os = mul-le-mul_right (256 ^ length os) (omega arith) in
    omega (arith, few_128 (length os) (omega arith))

pub number_large : (os : List ℕ) → 1 ≤ length os → 128 ≤ slice_index os 0 → 256 ^ length os ≤ 2 * number_256 0 os
number_large [] some le = absurd (omega arith)
number_large (o ∷ os) some le =
    let low : (256 * 0 + o) * 256 ^ length os ≤ number_256 (256 * 0 + o) os = number_low (256 * 0 + o) os in
    let cap : 128 * 256 ^ length os ≤ (256 * 0 + o) * 256 ^ length os = mul-le-mul_right (256 ^ length os) (omega arith) in
    rw pow-suc (omega arith)

pub signed_low : (os : List ℕ) → AreOctets os → 1 ≤ length os → length os ≤ 8 → slice_index os 0 < 128 → cast_signed w64 (number_256 0 os) ≡ signed_of os
signed_low os h some le lt =
    rw (lt-ltb (slice_index os 0) 128 lt) (to_z_pos w64 (number_256 0 os) (number_small os h some le lt))

signed_high_by : (n above p : ℕ) → n < p → above + p ≡ 2 ^ 64 → p ≤ 2 * n → p ≤ 2 ^ 64 → cast_signed w64 (n + above) ≡ negsuc (p - suc n)
signed_high_by n above p lt sum large le =
    let big : 2 ^ 63 ≤ n + above = omega arith in
    rw (le-ltb (n + above) (2 ^ 63) big) (ap negsuc (omega arith))

pub signed_high : (os : List ℕ) (above : ℕ) → AreOctets os → 1 ≤ length os → length os ≤ 8 → 128 ≤ slice_index os 0 → above + 256 ^ length os ≡ 2 ^ 64 → cast_signed w64 (number_256 0 os + above) ≡ signed_of os
signed_high os above h some le ge sum =
    rw (le-ltb (slice_index os 0) 128 ge)
    (signed_high_by (number_256 0 os) above (256 ^ length os) (omega (arith, number_high 0 os h)) sum (number_large os some ge) (few_256 (length os) le))

pub again : (r : ℤ) (n m : ℕ) → r ≡ cast_signed w64 n → n < 2 ^ 64 → n ≡ m → cast_signed w64 (cast_unsigned w64 r) ≡ cast_signed w64 m
again r n m e lt same = ap (λ z. cast_signed w64 (cast_unsigned w64 z)) e ∙ ap (cast_signed w64) (of_z-to_z w64 n lt ∙ same)
