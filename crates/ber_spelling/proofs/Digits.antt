-- Numbers in digits, as they are written.
use Rattle.std.proofs.Common.{◌≡◌, ◌≢◌, ℕ, zero, suc, ◌+◌, ◌*◌, ◌/◌, ◌%◌, ◌^◌, ◌<◌, ◌≤◌, Bool, true, false, cond, List, [], ◌∷◌, ◌++◌, length, refl, sym, ap, ◌∙◌, subst, arith}
use Rattle.std.specs.Prelude.{slice_index, nat_lt, nat_eq}
use Rattle.std.proofs.Math.Nat.{pow-suc, div-add-mod}
use Rattle.std.proofs.lemmas.Bool.{le-ltb, lt-ltb, ltb-true, ltb-false, ne_eqb}
use Rattle.asn1_types.specs.Whole.{number_256}
use Rattle.ber_spelling.specs.Spelling.{AreDigits, low_bits, number_128, IsBase128}
use Rattle.asn1_types.specs.Writing.{high_digits, base_128, digits_256, base_256, natural_octets}
use Rattle.ber_spelling.proofs.Identifiers.{digits_more}

split_128 : (n : ℕ) → (128 * (n / 128) + n % 128 ≡ n) × (n % 128 < 128)
split_128 n = (div-add-mod n 128, omega arith)

pub split_256 : (n : ℕ) → (256 * (n / 256) + n % 256 ≡ n) × (n % 256 < 256)
split_256 n = (div-add-mod n 256, omega arith)

-- ---- base 128

high_none : (t : ℕ) (b : List ℕ) → high_digits t 0 b ≡ b
high_none zero b = refl
high_none (suc t) b = refl

some_not : (n : ℕ) → 0 < n → nat_eq n 0 ≡ false
some_not n lt = ne_eqb n 0 (λ e. omega arith)

high_some : (t n : ℕ) (b : List ℕ) → 0 < n → high_digits (suc t) n b ≡ high_digits t (n / 128) ((128 + n % 128) ∷ b)
high_some t n b lt = rw (some_not n lt) refl

high_enough : (t u n : ℕ) (b : List ℕ) → n ≤ t → n ≤ u → high_digits t n b ≡ high_digits u n b
high_enough t u zero b le more = high_none t b ∙ sym (high_none u b)
high_enough zero u (suc n) b le more = absurd (omega arith)
high_enough (suc t) zero (suc n) b le more = absurd (omega arith)
high_enough (suc t) (suc u) (suc n) b le more =
    let s = split_128 (suc n) in
    high_some t (suc n) b (omega arith) ∙ high_enough t u (suc n / 128) ((128 + suc n % 128) ∷ b) (omega arith) (omega arith) ∙ sym (high_some u (suc n) b (omega arith))

pub high_step : (n : ℕ) (b : List ℕ) → 0 < n → high_digits (n / 128) (n / 128) ((128 + n % 128) ∷ b) ≡ high_digits n n b
high_step zero b lt = absurd (omega arith)
high_step (suc n) b lt =
    let s = split_128 (suc n) in
    high_enough (suc n / 128) n (suc n / 128) ((128 + suc n % 128) ∷ b) (omega arith) (omega arith) ∙ sym (high_some n (suc n) b lt)

cond_append : (x : Bool) (a b c d : List ℕ) → a ≡ c ++ d → b ≡ c ++ d → cond x a b ≡ c ++ d
cond_append true a b c d e f = e
cond_append false a b c d e f = f

pub high_append : (t n : ℕ) (b c : List ℕ) → high_digits t n (b ++ c) ≡ high_digits t n b ++ c
high_append zero n b c = refl
high_append (suc t) n b c = by_test (nat_eq n 0) (high_append t (n / 128) ((128 + n % 128) ∷ b) c)
  where
    by_test : (x : Bool) → high_digits t (n / 128) ((128 + n % 128) ∷ (b ++ c)) ≡ high_digits t (n / 128) ((128 + n % 128) ∷ b) ++ c → cond x (b ++ c) (high_digits t (n / 128) ((128 + n % 128) ∷ (b ++ c))) ≡ cond x b (high_digits t (n / 128) ((128 + n % 128) ∷ b)) ++ c
    by_test true h = refl
    by_test false h = h

high_are : (t n : ℕ) (b : List ℕ) → AreDigits b → AreDigits (high_digits t n b)
high_are zero n b h = h
high_are (suc t) n b h = let s = split_128 n in by_test (nat_eq n 0) (high_are t (n / 128) ((128 + n % 128) ∷ b) (digits_more (128 + n % 128) b (omega arith) (omega arith) h))
  where
    by_test : (x : Bool) → AreDigits (high_digits t (n / 128) ((128 + n % 128) ∷ b)) → AreDigits (cond x b (high_digits t (n / 128) ((128 + n % 128) ∷ b)))
    by_test true more = h
    by_test false more = more

low_high : (d : ℕ) → low_bits (128 + d) ≡ d
low_high d = let le : 128 ≤ 128 + d = omega arith in rw (le-ltb (128 + d) 128 le) (omega arith)

high_number : (t n : ℕ) (b : List ℕ) → n ≤ t → number_128 0 (high_digits t n b) ≡ number_128 n b
high_number t zero b le = ap (number_128 0) (high_none t b)
high_number zero (suc n) b le = absurd (omega arith)
high_number (suc t) (suc n) b le =
    let s = split_128 (suc n) in
    ap (number_128 0) (high_some t (suc n) b (omega arith)) ∙ high_number t (suc n / 128) ((128 + suc n % 128) ∷ b) (omega arith)
    ∙ ap (λ (k : ℕ). number_128 k b) (ap (λ (k : ℕ). 128 * (suc n / 128) + k) (low_high (suc n % 128)) ∙ s.0)

high_first : (t n : ℕ) (b : List ℕ) → n ≤ t → (n ≡ 0 → slice_index b 0 ≢ 128) → slice_index (high_digits t n b) 0 ≢ 128
high_first t zero b le h = subst (λ (l : List ℕ). slice_index l 0 ≢ 128) (sym (high_none t b)) (h refl)
high_first zero (suc n) b le h = absurd (omega arith)
high_first (suc t) (suc n) b le h =
    let s = split_128 (suc n) in
    subst (λ (l : List ℕ). slice_index l 0 ≢ 128) (sym (high_some t (suc n) b (omega arith)))
    (high_first t (suc n / 128) ((128 + suc n % 128) ∷ b) (omega arith) (λ e f. omega arith))

pub base_128_is : (n : ℕ) → IsBase128 (base_128 n) n
unfolding base_128
base_128_is n =
    let s = split_128 n in
    let last : (n % 128) < 128 = s.1 in
    let low : low_bits (n % 128) ≡ n % 128 = rw (lt-ltb (n % 128) 128 last) refl in
    record {
      are = high_are (n / 128) (n / 128) ((n % 128) ∷ []) last;
      shortest = high_first (n / 128) (n / 128) ((n % 128) ∷ []) (omega arith) (λ e f. omega arith);
      number = high_number (n / 128) (n / 128) ((n % 128) ∷ []) (omega arith) ∙ ap (λ (k : ℕ). 128 * (n / 128) + k) low ∙ s.0;
    }

-- ---- base 256

low_none : (t : ℕ) (b : List ℕ) → digits_256 t 0 b ≡ b
low_none zero b = refl
low_none (suc t) b = refl

low_some : (t n : ℕ) (b : List ℕ) → 0 < n → digits_256 (suc t) n b ≡ digits_256 t (n / 256) ((n % 256) ∷ b)
low_some t n b lt = rw (some_not n lt) refl

low_enough : (t u n : ℕ) (b : List ℕ) → n ≤ t → n ≤ u → digits_256 t n b ≡ digits_256 u n b
low_enough t u zero b le more = low_none t b ∙ sym (low_none u b)
low_enough zero u (suc n) b le more = absurd (omega arith)
low_enough (suc t) zero (suc n) b le more = absurd (omega arith)
low_enough (suc t) (suc u) (suc n) b le more =
    let s = split_256 (suc n) in
    low_some t (suc n) b (omega arith) ∙ low_enough t u (suc n / 256) ((suc n % 256) ∷ b) (omega arith) (omega arith) ∙ sym (low_some u (suc n) b (omega arith))

pub low_step : (n : ℕ) (b : List ℕ) → 0 < n → digits_256 (n / 256) (n / 256) ((n % 256) ∷ b) ≡ digits_256 n n b
low_step zero b lt = absurd (omega arith)
low_step (suc n) b lt =
    let s = split_256 (suc n) in
    low_enough (suc n / 256) n (suc n / 256) ((suc n % 256) ∷ b) (omega arith) (omega arith) ∙ sym (low_some n (suc n) b lt)

pub low_append : (t n : ℕ) (b c : List ℕ) → digits_256 t n (b ++ c) ≡ digits_256 t n b ++ c
low_append zero n b c = refl
low_append (suc t) n b c = by_test (nat_eq n 0) (low_append t (n / 256) ((n % 256) ∷ b) c)
  where
    by_test : (x : Bool) → digits_256 t (n / 256) ((n % 256) ∷ (b ++ c)) ≡ digits_256 t (n / 256) ((n % 256) ∷ b) ++ c → cond x (b ++ c) (digits_256 t (n / 256) ((n % 256) ∷ (b ++ c))) ≡ cond x b (digits_256 t (n / 256) ((n % 256) ∷ b)) ++ c
    by_test true h = refl
    by_test false h = h

low_number : (t n : ℕ) (b : List ℕ) → n ≤ t → number_256 0 (digits_256 t n b) ≡ number_256 n b
low_number t zero b le = ap (number_256 0) (low_none t b)
low_number zero (suc n) b le = absurd (omega arith)
low_number (suc t) (suc n) b le =
    let s = split_256 (suc n) in
    ap (number_256 0) (low_some t (suc n) b (omega arith)) ∙ low_number t (suc n / 256) ((suc n % 256) ∷ b) (omega arith) ∙ ap (λ (k : ℕ). number_256 k b) s.0

low_first : (t n : ℕ) (b : List ℕ) → n ≤ t → (n ≡ 0 → 0 < slice_index b 0) → 0 < slice_index (digits_256 t n b) 0
low_first t zero b le h = subst (λ (l : List ℕ). 0 < slice_index l 0) (sym (low_none t b)) (h refl)
low_first zero (suc n) b le h = absurd (omega arith)
low_first (suc t) (suc n) b le h =
    let s = split_256 (suc n) in
    subst (λ (l : List ℕ). 0 < slice_index l 0) (sym (low_some t (suc n) b (omega arith)))
    (low_first t (suc n / 256) ((suc n % 256) ∷ b) (omega arith) (λ e. omega arith))

low_few : (k t n : ℕ) (b : List ℕ) → n ≤ t → n < 256 ^ k → length (digits_256 t n b) ≤ k + length b
low_few k t zero b le lt = rw (low_none t b) (omega arith)
low_few k zero (suc n) b le lt = absurd (omega arith)
low_few zero (suc t) (suc n) b le lt = absurd (omega arith)
low_few (suc k) (suc t) (suc n) b le lt =
    let s = split_256 (suc n) in
    let p : 256 ^ suc k ≡ 256 ^ k * 256 = pow-suc 256 k in
    let more : length (digits_256 t (suc n / 256) ((suc n % 256) ∷ b)) ≤ k + length ((suc n % 256) ∷ b) = low_few k t (suc n / 256) ((suc n % 256) ∷ b) (omega arith) (omega arith) in
    rw (low_some t (suc n) b (omega arith)) (omega arith)

pub base_256_few : (n : ℕ) → n < 2 ^ 64 → length (base_256 n) ≤ 8
unfolding base_256
base_256_few n lt = let few = low_few 8 n n [] (omega arith) lt in omega arith

pub base_256_number : (n : ℕ) → number_256 0 (base_256 n) ≡ n
unfolding base_256
base_256_number n = low_number n n [] (omega arith)

pub base_256_first : (n : ℕ) → 0 < n → 0 < slice_index (base_256 n) 0
unfolding base_256
base_256_first n lt = low_first n n [] (omega arith) (λ e. absurd (omega arith))

pub some_first : (l : List ℕ) → 0 < slice_index l 0 → 1 ≤ length l
some_first [] lt = absurd (omega arith)
some_first (o ∷ l) lt = omega arith

-- ---- two's complement

nat_few : (t n : ℕ) (b : List ℕ) → n < 128 → natural_octets (suc t) n b ≡ n ∷ b
nat_few t n b lt = rw (lt-ltb n 128 lt) refl

nat_many : (t n : ℕ) (b : List ℕ) → 128 ≤ n → natural_octets (suc t) n b ≡ natural_octets t (n / 256) ((n % 256) ∷ b)
nat_many t n b le = rw (le-ltb n 128 le) refl

nat_zero : (t : ℕ) (b : List ℕ) → natural_octets t 0 b ≡ 0 ∷ b
nat_zero zero b = refl
nat_zero (suc t) b = refl

-- what holds of both turns holds of all
pub by_turns : (P : ℕ → List ℕ → List ℕ → Type 0) → ((n : ℕ) (b : List ℕ) → n < 128 → P n b (n ∷ b)) → ((n : ℕ) (b l : List ℕ) → 128 ≤ n → P (n / 256) ((n % 256) ∷ b) l → P n b l) → (t n : ℕ) (b : List ℕ) → n ≤ t → P n b (natural_octets t n b)
by_turns P few many zero n b le = few n b (omega arith)
by_turns P few many (suc t) n b le = let s = split_256 n in by_test (nat_lt n 128) refl (by_turns P few many t (n / 256) ((n % 256) ∷ b) (omega arith))
  where
    by_test : (x : Bool) → nat_lt n 128 ≡ x → P (n / 256) ((n % 256) ∷ b) (natural_octets t (n / 256) ((n % 256) ∷ b)) → P n b (natural_octets (suc t) n b)
    by_test true e more = let lt : n < 128 = ltb-true n 128 e in subst (P n b) (sym (nat_few t n b lt)) (few n b lt)
    by_test false e more =
        let ge : 128 ≤ n = ltb-false n 128 e in
        subst (P n b) (sym (nat_many t n b ge)) (many n b (natural_octets t (n / 256) ((n % 256) ∷ b)) ge more)

pub nat_enough : (t u n : ℕ) (b : List ℕ) → n ≤ t → n ≤ u → natural_octets t n b ≡ natural_octets u n b
nat_enough zero u zero b le more = sym (nat_zero u b)
nat_enough zero u (suc n) b le more = absurd (omega arith)
nat_enough (suc t) zero zero b le more = refl
nat_enough (suc t) zero (suc n) b le more = absurd (omega arith)
nat_enough (suc t) (suc u) n b le more = let s = split_256 n in by_test (nat_lt n 128) refl (nat_enough t u (n / 256) ((n % 256) ∷ b) (omega arith) (omega arith))
  where
    by_test : (x : Bool) → nat_lt n 128 ≡ x → natural_octets t (n / 256) ((n % 256) ∷ b) ≡ natural_octets u (n / 256) ((n % 256) ∷ b) → natural_octets (suc t) n b ≡ natural_octets (suc u) n b
    by_test true e h = let lt : n < 128 = ltb-true n 128 e in nat_few t n b lt ∙ sym (nat_few u n b lt)
    by_test false e h =
        let ge : 128 ≤ n = ltb-false n 128 e in
        nat_many t n b ge ∙ h ∙ sym (nat_many u n b ge)

pub nat_step : (n : ℕ) (b : List ℕ) → 128 ≤ n → natural_octets (n / 256) (n / 256) ((n % 256) ∷ b) ≡ natural_octets n n b
nat_step zero b le = absurd (omega arith)
nat_step (suc n) b le =
    let s = split_256 (suc n) in
    nat_enough (suc n / 256) n (suc n / 256) ((suc n % 256) ∷ b) (omega arith) (omega arith) ∙ sym (nat_many n (suc n) b le)

pub nat_last : (n : ℕ) (b : List ℕ) → n < 128 → natural_octets n n b ≡ n ∷ b
nat_last zero b lt = refl
nat_last (suc n) b lt = nat_few n (suc n) b lt

pub nat_append : (t n : ℕ) (b c : List ℕ) → n ≤ t → natural_octets t n (b ++ c) ≡ natural_octets t n b ++ c
nat_append zero n b c le = refl
nat_append (suc t) n b c le = let s = split_256 n in by_test (nat_lt n 128) (nat_append t (n / 256) ((n % 256) ∷ b) c (omega arith))
  where
    by_test : (x : Bool) → natural_octets t (n / 256) ((n % 256) ∷ (b ++ c)) ≡ natural_octets t (n / 256) ((n % 256) ∷ b) ++ c → cond x (n ∷ (b ++ c)) (natural_octets t (n / 256) ((n % 256) ∷ (b ++ c))) ≡ cond x (n ∷ b) (natural_octets t (n / 256) ((n % 256) ∷ b)) ++ c
    by_test true h = refl
    by_test false h = h
