-- Numbers in digits of seven bits, with bit 8 set in all digits but the last.
use Rattle.std.proofs.Common.{◌≡◌, ◌≢◌, ℕ, zero, suc, ◌+◌, ◌*◌, ◌/◌, ◌%◌, ◌^◌, ◌≤◌, ◌<◌, Bool, true, false, List, [], ◌∷◌, length, refl, sym, ap, ◌∙◌, subst, arith, inl, inr}
use Rattle.std.specs.Prelude.{nat_eq, slice_index}
use Rattle.std.proofs.Math.Nat.{pow-suc, pow-le-pow_right, mul-le-mul_right, add-mul, mul_assoc, mul_comm}
use Rattle.std.proofs.lemmas.Bool.{cases_lt, eqb-true, eqb-false, ne_eqb}
use Rattle.ber_spelling.specs.Spelling.{AreDigits, low_bits, number_128, IsBase128}
use Rattle.ber_spelling.proofs.Identifiers.{low_small, low_large}
use Rattle.packed_codec.specs.ObjectIds.{digits_128, without_zeros, base_128}

-- ---- one number has one form

-- digits as many as others of the same number are the same
same_digits : (p q : ℕ) (a b : List ℕ) → AreDigits a → AreDigits b → length a ≡ length b → number_128 p a ≡ number_128 q b → (p ≡ q) × (a ≡ b)
same_digits p q [] b h k len e = absurd h
same_digits p q (x ∷ []) [] h k len e = absurd k
same_digits p q (x ∷ y ∷ a) [] h k len e = absurd k
same_digits p q (x ∷ []) (z ∷ []) h k len e =
    let lx = low_small x h in
    let lz = low_small z k in
    let first : x ≡ z = omega arith in
    (omega arith, λ i. first i ∷ [])
same_digits p q (x ∷ []) (z ∷ w ∷ b) h k len e = absurd (omega arith)
same_digits p q (x ∷ y ∷ a) (z ∷ []) h k len e = absurd (omega arith)
same_digits p q (x ∷ y ∷ a) (z ∷ w ∷ b) h k len e =
    let r = same_digits (128 * p + low_bits x) (128 * q + low_bits z) (y ∷ a) (w ∷ b) h.2 k.2 (omega arith) e in
    let s : 128 * p + low_bits x ≡ 128 * q + low_bits z = r.0 in
    let hx : 128 ≤ x = h.0 in
    let ux : x < 256 = h.1 in
    let hz : 128 ≤ z = k.0 in
    let uz : z < 256 = k.1 in
    let lx = low_large x h.0 in
    let lz = low_large z k.0 in
    let first : x ≡ z = omega arith in
    (omega arith, λ i. first i ∷ r.1 i)

regroup : (n o p : ℕ) → (128 * n + o) * p ≡ 128 * (n * p) + o * p
regroup n o p = add-mul (128 * n) o p ∙ ap (λ (k : ℕ). k + o * p) (mul_assoc 128 n p)

out : (n p : ℕ) → n * (p * 128) ≡ 128 * (n * p)
out n p = sym (mul_assoc n p 128) ∙ mul_comm (n * p) 128

digits_low : (n : ℕ) (ds : List ℕ) → n * 128 ^ length ds ≤ number_128 n ds
digits_low n [] = omega arith
digits_low n (d ∷ ds) =
    let more = digits_low (128 * n + low_bits d) ds in
    let p = pow-suc 128 (length ds) in
    let r = regroup n (low_bits d) (128 ^ length ds) in
    let o = out n (128 ^ length ds) in
    rw p (omega arith)

digit_small : (d : ℕ) → d < 256 → low_bits d < 128
digit_small d lt =
    elim (cases_lt d 128) [
      | inl less ↦ let e = low_small d less in omega arith
      | inr le ↦ let e = low_large d le in omega arith
    ]

digits_high : (n : ℕ) (ds : List ℕ) → AreDigits ds → number_128 n ds < (n + 1) * 128 ^ length ds
digits_high n [] h = absurd h
digits_high n (d ∷ []) h = let e = low_small d h in let p = pow-suc 128 0 in omega arith
digits_high n (d ∷ e ∷ ds) h =
    let more = digits_high (128 * n + low_bits d) (e ∷ ds) h.2 in
    let P : ℕ = 128 ^ length (e ∷ ds) in
    let p : 128 ^ suc (length (e ∷ ds)) ≡ P * 128 = pow-suc 128 (length (e ∷ ds)) in
    let low : low_bits d < 128 = digit_small d h.1 in
    let step : (128 * n + low_bits d + 1) * P ≤ (128 * n + 128) * P = mul-le-mul_right P (omega arith) in
    let r = regroup n 128 P in
    let o = out n P in
    let s : (n + 1) * (P * 128) ≡ 128 * ((n + 1) * P) = out (n + 1) P in
    let t : (n + 1) * P ≡ n * P + 1 * P = add-mul n 1 P in
    let u : 1 * P ≡ P = omega arith in
    rw p (omega arith)

-- a number of more digits is larger
long_digits : (b : List ℕ) → AreDigits b → slice_index b 0 ≢ 128 → 2 ≤ length b → (p : ℕ) × (length b ≡ suc p) × (128 ^ p ≤ number_128 0 b)
long_digits [] h ne some = absurd h
long_digits (x ∷ []) h ne some = absurd (omega arith)
long_digits (x ∷ y ∷ b) h ne some =
    let le : 128 ≤ x = h.0 in
    let low = low_large x h.0 in
    let one : 1 ≤ low_bits x = omega arith in
    let n : (128 * 0 + low_bits x) * 128 ^ length (y ∷ b) ≤ number_128 (128 * 0 + low_bits x) (y ∷ b) = digits_low (128 * 0 + low_bits x) (y ∷ b) in
    let m : 1 * 128 ^ length (y ∷ b) ≤ (128 * 0 + low_bits x) * 128 ^ length (y ∷ b) = mul-le-mul_right (128 ^ length (y ∷ b)) (omega arith) in
    (length (y ∷ b), refl, omega arith)

digits_apart : (a b : List ℕ) → AreDigits a → AreDigits b → slice_index b 0 ≢ 128 → length a < length b → number_128 0 a < number_128 0 b
digits_apart [] b h k ne less = absurd h
digits_apart (x ∷ a) b h k ne less =
    let l = long_digits b k ne (omega arith) in
    let s : number_128 0 (x ∷ a) < (0 + 1) * 128 ^ length (x ∷ a) = digits_high 0 (x ∷ a) h in
    let some : zero < 128 = omega arith in
    let m : 128 ^ length (x ∷ a) ≤ 128 ^ l.0 = pow-le-pow_right some (omega (arith, l.1)) in
    omega (arith, l.2)

pub base_unique : (a b : List ℕ) (n : ℕ) → IsBase128 a n → IsBase128 b n → a ≡ b
base_unique a b n h k =
    let ea = h.number in
    let eb = k.number in
    elim (cases_lt (length a) (length b)) [
      | inl less ↦ absurd (let d = digits_apart a b h.are k.are k.shortest less in omega arith)
      | inr le ↦ elim (cases_lt (length b) (length a)) [
        | inl less ↦ absurd (let d = digits_apart b a k.are h.are h.shortest less in omega arith)
        | inr ge ↦ (same_digits 0 0 a b h.are k.are (omega arith) (ea ∙ sym eb)).1
      ]
    ]

-- ---- as it is written

record Stripped (ds : List ℕ) (digits : List ℕ) : Type 0 where
  are : AreDigits ds
  shortest : slice_index ds 0 ≢ 128
  number : number_128 0 ds ≡ number_128 0 digits

strip : (ds : List ℕ) → AreDigits ds → Stripped (without_zeros ds) ds
strip [] h = absurd h
strip (d ∷ []) h =
    let ne : d ≢ 128 = λ e. let lt : d < 128 = h in omega arith in
    let cell : without_zeros (d ∷ []) ≡ d ∷ [] = rw (ne_eqb d 128 ne) refl in
    subst (λ (x : List ℕ). Stripped x (d ∷ [])) (sym cell) (record { are = h; shortest = ne; number = refl })
strip (d ∷ e ∷ ds) h = by_test (nat_eq d 128) refl (strip (e ∷ ds) h.2)
  where
    by_test : (b : Bool) → nat_eq d 128 ≡ b → Stripped (without_zeros (e ∷ ds)) (e ∷ ds) → Stripped (without_zeros (d ∷ e ∷ ds)) (d ∷ e ∷ ds)
    by_test true t more =
        let cell : without_zeros (d ∷ e ∷ ds) ≡ without_zeros (e ∷ ds) = rw t refl in
        let low : 128 * 0 + low_bits d ≡ 0 = (let same : d ≡ 128 = eqb-true d 128 t in let l = low_large d h.0 in omega arith) in
        subst (λ (x : List ℕ). Stripped x (d ∷ e ∷ ds)) (sym cell)
        (record { are = more.are; shortest = more.shortest; number = more.number ∙ ap (λ (k : ℕ). number_128 k (e ∷ ds)) (sym low) })
    by_test false t more =
        let cell : without_zeros (d ∷ e ∷ ds) ≡ d ∷ e ∷ ds = rw t refl in
        subst (λ (x : List ℕ). Stripped x (d ∷ e ∷ ds)) (sym cell)
        (record { are = h; shortest = eqb-false d 128 t; number = refl })

high_digit : (k : ℕ) → k < 128 → (128 ≤ 128 + k) × (128 + k < 256) × (low_bits (128 + k) ≡ k)
high_digit k lt =
    let le : 128 ≤ 128 + k = omega arith in
    (le, omega arith, low_large (128 + k) le ∙ omega arith)

pub base_128_is : (n : ℕ) → n < 2 ^ 35 → IsBase128 (base_128 n) n
unfolding base_128
base_128_is n lt =
    let a = high_digit (n / 268435456 % 128) (omega arith) in
    let b = high_digit (n / 2097152 % 128) (omega arith) in
    let c = high_digit (n / 16384 % 128) (omega arith) in
    let d = high_digit (n / 128 % 128) (omega arith) in
    let last : n % 128 < 128 = omega arith in
    let e = low_small (n % 128) last in
    let s = strip (digits_128 n) (a.0, a.1, (b.0, b.1, (c.0, c.1, (d.0, d.1, last)))) in
    record {
      are = s.are;
      shortest = s.shortest;
      number = s.number ∙ rw (a.2, b.2, c.2, d.2, e) (omega arith);
    }
