-- Contents of INTEGER: what is read is what is written, and what is written is read.
use Rattle.std.proofs.Common.{◌≡◌, ℕ, zero, suc, ◌+◌, ◌-◌, ◌*◌, ◌/◌, ◌^◌, ◌≤◌, ◌<◌, ℤ, pos, negsuc, Bool, true, false, not, ◌&&◌, cond, List, [], ◌∷◌, length, Some, refl, sym, ap, ◌∙◌, subst, arith, inl, inr}
use Rattle.std.specs.Prelude.{nat_lt, nat_le, nat_eq, slice_index}
use Rattle.std.specs.Int.{w64, cast_unsigned, bytes_high_first, byte_at}
use Rattle.std.proofs.Math.Nat.{pow-suc, pow-le-pow_right, mul-le-mul_right, mod-lt, mod-eq_of_lt}
use Rattle.std.proofs.lemmas.Bool.{cases_lt, le-ltb, lt-ltb, ltb-true, ltb-false, le-leb, leb-true, leb-false, eqb-true, and_parts, or_parts, or_cases}
use Rattle.byteorder.specs.Endian.{big_from}
use Rattle.byteorder.specs.Numbers.{big_from-cons, big_from-bytes}
use Rattle.asn1_types.specs.Whole.{number_256}
use Rattle.asn1_types.specs.Fits.{is_number}
use Rattle.osi_base.specs.Octets.{AreOctets}
use Rattle.osi_base.proofs.OctetLaws.{octets_tail}
use Rattle.ber_spelling.specs.Primitives.{is_padded, signed_of, integer_of}
use Rattle.ber_spelling.proofs.Numbers.{regroup, out, number_low, number_high, number_small, number_large}
use Rattle.packed_codec.specs.Numbers.{is_size, unpadded, integer_octets}
use Rattle.packed_codec.proofs.Spelled.{some_if}

-- ---- numbers and their octets

shift : (p : ℕ) (os : List ℕ) → number_256 p os ≡ p * 256 ^ length os + number_256 0 os
shift p [] = omega arith
shift p (o ∷ os) =
    let a = shift (256 * p + o) os in
    let b = shift (256 * 0 + o) os in
    let c = pow-suc 256 (length os) in
    let d = regroup p o (256 ^ length os) in
    let e = out p (256 ^ length os) in
    let f : (256 * 0 + o) * 256 ^ length os ≡ o * 256 ^ length os = ap (λ (k : ℕ). k * 256 ^ length os) (omega arith) in
    rw c (omega arith)

big_is : (os : List ℕ) → number_256 0 os ≡ big_from 0 (length os) os
big_is [] = refl
big_is (o ∷ os) =
    let a = shift (256 * 0 + o) os in
    let f : (256 * 0 + o) * 256 ^ length os ≡ o * 256 ^ length os = ap (λ (k : ℕ). k * 256 ^ length os) (omega arith) in
    let b = big_is os in
    rw (big_from-cons 0 (length os) o os) (omega arith)

-- octets as many as others of the same number are the same
same_octets : (p q : ℕ) (a b : List ℕ) → AreOctets a → AreOctets b → length a ≡ length b → number_256 p a ≡ number_256 q b → (p ≡ q) × (a ≡ b)
same_octets p q [] [] h k len e = (e, refl)
same_octets p q [] (y ∷ b) h k len e = absurd (omega arith)
same_octets p q (x ∷ a) [] h k len e = absurd (omega arith)
same_octets p q (x ∷ a) (y ∷ b) h k len e =
    let r = same_octets (256 * p + x) (256 * q + y) a b (octets_tail x a h) (octets_tail y b k) (omega arith) e in
    let s : 256 * p + x ≡ 256 * q + y = r.0 in
    let lx : x < 256 = h.each 0 in
    let ly : y < 256 = k.each 0 in
    let first : x ≡ y = omega arith in
    (omega arith, λ i. first i ∷ r.1 i)

-- ---- numbers without padding have one form

record Shortest (os : List ℕ) : Type 0 where
  are : AreOctets os
  some : 1 ≤ length os
  shortest : is_padded os ≡ false

and_false : (a b : Bool) → (a && b) ≡ false → a ≡ true → b ≡ false
and_false true b e t = e
and_false false b e t = absurd cc

mul_le : (a b p : ℕ) → a ≤ b → a * p ≤ b * p
mul_le a b p h = mul-le-mul_right p h

-- ---- how large a number of so many octets is

record LowShort (os : List ℕ) : Type 0 where
  p : ℕ
  len : length os ≡ suc p
  small : number_256 0 os < 128 * 256 ^ p

low_short : (os : List ℕ) → AreOctets os → 1 ≤ length os → slice_index os 0 < 128 → LowShort os
low_short [] h some lt = absurd (omega arith)
low_short (x ∷ os) h some lt =
    let n : number_256 (256 * 0 + x) os < (256 * 0 + x + 1) * 256 ^ length os = number_high (256 * 0 + x) os (octets_tail x os h) in
    let le : (256 * 0 + x + 1) * 256 ^ length os ≤ 128 * 256 ^ length os = mul_le (256 * 0 + x + 1) 128 (256 ^ length os) (omega arith) in
    record { p = length os; len = refl; small = omega arith }

record LowLong (os : List ℕ) : Type 0 where
  p : ℕ
  len : length os ≡ suc (suc p)
  large : 128 * 256 ^ p ≤ number_256 0 os

low_first : (x y : ℕ) → (nat_eq x 0 && nat_lt y 128) ≡ false → 128 ≤ 256 * (256 * 0 + x) + y
low_first zero y e = let le : 128 ≤ y = ltb-false y 128 e in omega arith
low_first (suc x) y e = omega arith

low_long : (os : List ℕ) → 2 ≤ length os → is_padded os ≡ false → LowLong os
low_long [] some e = absurd (omega arith)
low_long (x ∷ []) some e = absurd (omega arith)
low_long (x ∷ y ∷ os) some e =
    let t = or_parts (nat_eq x 0 && nat_lt y 128) (nat_eq x 255 && nat_le 128 y) e in
    let n : (256 * (256 * 0 + x) + y) * 256 ^ length os ≤ number_256 (256 * (256 * 0 + x) + y) os = number_low (256 * (256 * 0 + x) + y) os in
    let le : 128 * 256 ^ length os ≤ (256 * (256 * 0 + x) + y) * 256 ^ length os = mul_le 128 (256 * (256 * 0 + x) + y) (256 ^ length os) (low_first x y t.0) in
    record { p = length os; len = refl; large = omega arith }

record HighShort (os : List ℕ) : Type 0 where
  p : ℕ
  len : length os ≡ suc p
  near : 256 ^ length os ≤ number_256 0 os + 128 * 256 ^ p

high_short : (os : List ℕ) → 1 ≤ length os → 128 ≤ slice_index os 0 → HighShort os
high_short [] some le = absurd (omega arith)
high_short (x ∷ os) some le =
    let n : (256 * 0 + x) * 256 ^ length os ≤ number_256 (256 * 0 + x) os = number_low (256 * 0 + x) os in
    let m : 128 * 256 ^ length os ≤ (256 * 0 + x) * 256 ^ length os = mul_le 128 (256 * 0 + x) (256 ^ length os) (omega arith) in
    let p : 256 ^ suc (length os) ≡ 256 ^ length os * 256 = pow-suc 256 (length os) in
    record { p = length os; len = refl; near = omega arith }

record HighLong (os : List ℕ) : Type 0 where
  p : ℕ
  len : length os ≡ suc (suc p)
  far : number_256 0 os + 1 + 128 * 256 ^ p ≤ 256 ^ length os

high_first : (x y : ℕ) → x < 256 → y < 256 → (nat_eq x 255 && nat_le 128 y) ≡ false → 256 * (256 * 0 + x) + y + 1 ≤ 65408
high_first x y lx ly e =
    elim (cases_lt x 255) [
      | inl lt ↦ omega arith
      | inr le ↦
          let same : x ≡ 255 = omega arith in
          let f : nat_le 128 y ≡ false = and_false (nat_eq x 255) (nat_le 128 y) e (ap (λ (k : ℕ). nat_eq k 255) same) in
          let lt : y < 128 = leb-false 128 y f in
          omega arith
    ]

high_long : (os : List ℕ) → AreOctets os → 2 ≤ length os → is_padded os ≡ false → HighLong os
high_long [] h some e = absurd (omega arith)
high_long (x ∷ []) h some e = absurd (omega arith)
high_long (x ∷ y ∷ os) h some e =
    let t = or_parts (nat_eq x 0 && nat_lt y 128) (nat_eq x 255 && nat_le 128 y) e in
    let k : ℕ = 256 * (256 * 0 + x) + y in
    let n : number_256 k os < (k + 1) * 256 ^ length os = number_high k os (octets_tail y os (octets_tail x (y ∷ os) h)) in
    let le : (k + 1) * 256 ^ length os ≤ 65408 * 256 ^ length os = mul_le (k + 1) 65408 (256 ^ length os) (high_first x y (h.each 0) (h.each 1) t.1) in
    let p : 256 ^ suc (suc (length os)) ≡ 256 ^ suc (length os) * 256 = pow-suc 256 (suc (length os)) in
    let q : 256 ^ suc (length os) ≡ 256 ^ length os * 256 = pow-suc 256 (length os) in
    record { p = length os; len = refl; far = omega arith }

pow_mono : (a b : ℕ) → a ≤ b → 256 ^ a ≤ 256 ^ b
pow_mono a b le = let some : zero < 256 = omega arith in pow-le-pow_right some le

low_apart : (a b : List ℕ) → Shortest a → Shortest b → slice_index a 0 < 128 → length a < length b → number_256 0 a < number_256 0 b
low_apart a b h k lt less =
    let some = h.some in
    let s = low_short a h.are h.some lt in
    let l = low_long b (omega arith) k.shortest in
    let m : 256 ^ s.p ≤ 256 ^ l.p = pow_mono s.p l.p (omega (arith, s.len, l.len)) in
    omega (arith, s.small, l.large)

high_apart : (a b : List ℕ) → Shortest a → Shortest b → 128 ≤ slice_index a 0 → length a < length b → 256 ^ length a - suc (number_256 0 a) < 256 ^ length b - suc (number_256 0 b)
high_apart a b h k le less =
    let some = h.some in
    let s = high_short a h.some le in
    let l = high_long b k.are (omega arith) k.shortest in
    let m : 256 ^ s.p ≤ 256 ^ l.p = pow_mono s.p l.p (omega (arith, s.len, l.len)) in
    let top : number_256 0 a < (0 + 1) * 256 ^ length a = number_high 0 a h.are in
    let one : 1 ≤ 256 ^ s.p = pow_mono 0 s.p (omega arith) in
    omega (arith, s.near, l.far)

neg_is : (m n : ℕ) → negsuc m ≡ negsuc n → m ≡ n
neg_is m n e = cc

pos_is : (m n : ℕ) → pos m ≡ pos n → m ≡ n
pos_is m n e = cc

same_low : (a b : List ℕ) → Shortest a → Shortest b → slice_index a 0 < 128 → slice_index b 0 < 128 → number_256 0 a ≡ number_256 0 b → a ≡ b
same_low a b h k la lb e =
    elim (cases_lt (length a) (length b)) [
      | inl less ↦ absurd (let d = low_apart a b h k la less in omega arith)
      | inr le ↦ elim (cases_lt (length b) (length a)) [
        | inl less ↦ absurd (let d = low_apart b a k h lb less in omega arith)
        | inr ge ↦ (same_octets 0 0 a b h.are k.are (omega arith) e).1
      ]
    ]

same_high : (a b : List ℕ) → Shortest a → Shortest b → 128 ≤ slice_index a 0 → 128 ≤ slice_index b 0 → 256 ^ length a - suc (number_256 0 a) ≡ 256 ^ length b - suc (number_256 0 b) → a ≡ b
same_high a b h k la lb e =
    elim (cases_lt (length a) (length b)) [
      | inl less ↦ absurd (let d = high_apart a b h k la less in omega arith)
      | inr le ↦ elim (cases_lt (length b) (length a)) [
        | inl less ↦ absurd (let d = high_apart b a k h lb less in omega arith)
        | inr ge ↦
            let len : length a ≡ length b = omega arith in
            let p : 256 ^ length a ≡ 256 ^ length b = ap (λ (n : ℕ). 256 ^ n) len in
            let ta : number_256 0 a < (0 + 1) * 256 ^ length a = number_high 0 a h.are in
            let tb : number_256 0 b < (0 + 1) * 256 ^ length b = number_high 0 b k.are in
            let same : number_256 0 a ≡ number_256 0 b = omega arith in
            (same_octets 0 0 a b h.are k.are len same).1
      ]
    ]

unique : (a b : List ℕ) → Shortest a → Shortest b → signed_of a ≡ signed_of b → a ≡ b
unique a b h k e = by_signs (nat_lt (slice_index a 0) 128) (nat_lt (slice_index b 0) 128) refl refl e
  where
    by_signs : (s t : Bool) → nat_lt (slice_index a 0) 128 ≡ s → nat_lt (slice_index b 0) 128 ≡ t
        → cond s (pos (number_256 0 a)) (negsuc (256 ^ length a - suc (number_256 0 a))) ≡ cond t (pos (number_256 0 b)) (negsuc (256 ^ length b - suc (number_256 0 b))) → a ≡ b
    by_signs true true u v e = same_low a b h k (ltb-true (slice_index a 0) 128 u) (ltb-true (slice_index b 0) 128 v) (pos_is _ _ e)
    by_signs true false u v e = absurd cc
    by_signs false true u v e = absurd cc
    by_signs false false u v e = same_high a b h k (ltb-false (slice_index a 0) 128 u) (ltb-false (slice_index b 0) 128 v) (neg_is _ _ e)

-- ---- without padding

record Unpadded (os : List ℕ) : Type 0 where
  form : Shortest (unpadded os)
  few : length (unpadded os) ≤ length os
  same : signed_of (unpadded os) ≡ signed_of os

pad_low : (y : ℕ) (os : List ℕ) → y < 128 → signed_of (y ∷ os) ≡ signed_of (0 ∷ y ∷ os)
pad_low y os lt = rw (lt-ltb y 128 lt) refl

pad_high : (y : ℕ) (os : List ℕ) → AreOctets (y ∷ os) → 128 ≤ y → signed_of (y ∷ os) ≡ signed_of (255 ∷ y ∷ os)
pad_high y os h le =
    let p : 256 ^ suc (length (y ∷ os)) ≡ 256 ^ length (y ∷ os) * 256 = pow-suc 256 (length (y ∷ os)) in
    let n : number_256 255 (y ∷ os) ≡ 255 * 256 ^ length (y ∷ os) + number_256 0 (y ∷ os) = shift 255 (y ∷ os) in
    let top : number_256 0 (y ∷ os) < (0 + 1) * 256 ^ length (y ∷ os) = number_high 0 (y ∷ os) h in
    let same : 256 ^ length (y ∷ os) - suc (number_256 0 (y ∷ os)) ≡ 256 ^ suc (length (y ∷ os)) - suc (number_256 255 (y ∷ os)) = omega arith in
    rw (le-ltb y 128 le) (ap negsuc same)

pad_step : (x y : ℕ) (os : List ℕ) → AreOctets (y ∷ os) → is_padded (x ∷ y ∷ os) ≡ true → signed_of (y ∷ os) ≡ signed_of (x ∷ y ∷ os)
pad_step x y os h e =
    elim (or_cases (nat_eq x 0 && nat_lt y 128) (nat_eq x 255 && nat_le 128 y) e) [
      | inl t ↦
          let u = and_parts (nat_eq x 0) (nat_lt y 128) t in
          pad_low y os (ltb-true y 128 u.1) ∙ ap (λ (k : ℕ). signed_of (k ∷ y ∷ os)) (sym (eqb-true x 0 u.0))
      | inr t ↦
          let u = and_parts (nat_eq x 255) (nat_le 128 y) t in
          pad_high y os h (leb-true 128 y u.1) ∙ ap (λ (k : ℕ). signed_of (k ∷ y ∷ os)) (sym (eqb-true x 255 u.0))
    ]

without : (os : List ℕ) → AreOctets os → 1 ≤ length os → Unpadded os
without [] h some = absurd (omega arith)
without (x ∷ []) h some = record { form = record { are = h; some = omega arith; shortest = refl }; few = omega arith; same = refl }
without (x ∷ y ∷ os) h some = by_test (is_padded (x ∷ y ∷ os)) refl (without (y ∷ os) (octets_tail x (y ∷ os) h) (omega arith))
  where
    by_test : (b : Bool) → is_padded (x ∷ y ∷ os) ≡ b → Unpadded (y ∷ os) → Unpadded (x ∷ y ∷ os)
    by_test true e more =
        let cell : unpadded (x ∷ y ∷ os) ≡ unpadded (y ∷ os) = rw e refl in
        record {
          form = subst Shortest (sym cell) more.form;
          few = (let len = ap length cell in let le = more.few in omega arith);
          same = ap signed_of cell ∙ more.same ∙ pad_step x y os (octets_tail x (y ∷ os) h) e;
        }
    by_test false e more =
        let cell : unpadded (x ∷ y ∷ os) ≡ x ∷ y ∷ os = rw e refl in
        record {
          form = subst Shortest (sym cell) (record { are = h; some = omega arith; shortest = e });
          few = (let len = ap length cell in omega arith);
          same = ap signed_of cell;
        }

-- ---- numbers of 64 bits

byte_small : (k x : ℕ) → byte_at k x < 256
byte_small zero x = mod-lt x (omega arith)
byte_small (suc k) x = mod-lt (x / 256 ^ suc k) (omega arith)

cons_are : (o : ℕ) (os : List ℕ) → o < 256 → AreOctets os → AreOctets (o ∷ os)
cons_are o os lt h = record { each = at }
  where
    at : (i : ℕ) → slice_index (o ∷ os) i < 256
    at zero = lt
    at (suc i) = h.each i

bytes_are : (n x : ℕ) → AreOctets (bytes_high_first n x)
bytes_are zero x = record { each = λ i. omega arith }
bytes_are (suc n) x = cons_are (byte_at n x) (bytes_high_first n x) (byte_small n x) (bytes_are n x)

eight : ℤ → List ℕ
eight z = bytes_high_first 8 (cast_unsigned w64 z)

eight_number : (x : ℕ) → x < 2 ^ 64 → number_256 0 (bytes_high_first 8 x) ≡ x
eight_number x lt =
    big_is (bytes_high_first 8 x) ∙ big_from-bytes 8 x [] ∙ mod-eq_of_lt lt

first_low : (x : ℕ) → x < 2 ^ 63 → byte_at 7 x < 128
first_low x lt = omega arith

first_high : (x : ℕ) → x < 2 ^ 64 → 2 ^ 63 ≤ x → 128 ≤ byte_at 7 x
first_high x lt le = omega arith

eight_is : (z : ℤ) → is_number z ≡ true → signed_of (eight z) ≡ z
unfolding eight
eight_is (pos n) e =
    let lt : n < 2 ^ 63 = ltb-true n (2 ^ 63) e in
    let most : n < 2 ^ 64 = omega arith in
    let first : byte_at 7 n < 128 = first_low n lt in
    rw (lt-ltb (byte_at 7 n) 128 first) (ap pos (eight_number n most))
eight_is (negsuc n) e =
    let lt : n < 2 ^ 63 = ltb-true n (2 ^ 63) e in
    let x : ℕ = 2 ^ 64 - suc n in
    let most : x < 2 ^ 64 = omega arith in
    let least : 2 ^ 63 ≤ x = omega arith in
    let first : 128 ≤ byte_at 7 x = first_high x most least in
    let number : number_256 0 (bytes_high_first 8 x) ≡ x = eight_number x most in
    let same : 18446744073709551616 - suc (number_256 0 (bytes_high_first 8 x)) ≡ n = omega arith in
    rw (le-ltb (byte_at 7 x) 128 first) (ap negsuc same)

eight_without : (z : ℤ) → Unpadded (eight z)
unfolding eight
eight_without z = without (bytes_high_first 8 (cast_unsigned w64 z)) (bytes_are 8 (cast_unsigned w64 z)) (omega arith)

-- what 1 to 8 octets are has 64 bits
signed_number : (os : List ℕ) → AreOctets os → 1 ≤ length os → length os ≤ 8 → is_number (signed_of os) ≡ true
signed_number os h some few = by_sign (nat_lt (slice_index os 0) 128) refl
  where
    by_sign : (s : Bool) → nat_lt (slice_index os 0) 128 ≡ s → is_number (cond s (pos (number_256 0 os)) (negsuc (256 ^ length os - suc (number_256 0 os)))) ≡ true
    by_sign true e = lt-ltb (number_256 0 os) (2 ^ 63) (number_small os h some few (ltb-true (slice_index os 0) 128 e))
    by_sign false e =
        let large = number_large os some (ltb-false (slice_index os 0) 128 e) in
        let most : 256 ^ length os ≤ 256 ^ 8 = pow_mono (length os) 8 few in
        lt-ltb (256 ^ length os - suc (number_256 0 os)) (2 ^ 63) (omega arith)

size_is : (n : ℕ) → 1 ≤ n → n ≤ 8 → is_size n ≡ true
size_is n some few = rw (le-leb 1 n some, le-leb n 8 few) refl

not_false : (b : Bool) → not b ≡ true → b ≡ false
not_false true e = absurd cc
not_false false e = refl

pub record IsInteger (c : List ℕ) (z : ℤ) : Type 0 where
  pub number : is_number z ≡ true
  pub octets : integer_octets z ≡ c
  pub size : is_size (length c) ≡ true

pub integer_sound : (c : List ℕ) (z : ℤ) → AreOctets c → integer_of c ≡ Some z → IsInteger c z
unfolding integer_of integer_octets eight
integer_sound c z h e =
    let t = some_if (is_size (length c) && not (is_padded c)) (signed_of c) z e in
    let u = and_parts (is_size (length c)) (not (is_padded c)) t.0 in
    let v = and_parts (nat_le 1 (length c)) (nat_le (length c) 8) u.0 in
    let some : 1 ≤ length c = leb-true 1 (length c) v.0 in
    let few : length c ≤ 8 = leb-true (length c) 8 v.1 in
    let number : is_number z ≡ true = ap is_number (sym t.1) ∙ signed_number c h some few in
    let w = eight_without z in
    let form : Shortest c = record { are = h; some = some; shortest = not_false (is_padded c) u.1 } in
    record { number = number; octets = unique (unpadded (eight z)) c w.form form (w.same ∙ eight_is z number ∙ sym t.1); size = u.0 }

pub record ReadsInteger (z : ℤ) : Type 0 where
  pub reads : integer_of (integer_octets z) ≡ Some z
  pub size : is_size (length (integer_octets z)) ≡ true

pub integer_complete : (z : ℤ) → is_number z ≡ true → ReadsInteger z
unfolding integer_of integer_octets eight
integer_complete z e =
    let w = eight_without z in
    let size : is_size (length (unpadded (eight z))) ≡ true = size_is (length (unpadded (eight z))) w.form.some w.few in
    record {
      reads = rw (size, w.form.shortest) (ap (λ (k : ℤ). Some k) (w.same ∙ eight_is z e));
      size = size;
    }
