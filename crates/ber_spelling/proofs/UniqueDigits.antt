-- A number has one spelling in digits: the one that is written.
use Rattle.std.proofs.Common.{◌≡◌, ◌≢◌, ℕ, zero, suc, ◌+◌, ◌-◌, ◌*◌, ◌/◌, ◌%◌, ◌^◌, ◌<◌, ◌≤◌, ◌⊎◌, ℤ, pos, negsuc, Bool, true, false, ◌||◌, cond, List, [], ◌∷◌, ◌++◌, length, refl, sym, ap, ◌∙◌, arith, append_assoc, append-nil, inl, inr}
use Rattle.std.specs.Prelude.{slice_index, nat_lt}
use Rattle.std.specs.List.{AllByRecursion, flat_map}
use Rattle.std.proofs.lemmas.Bool.{lt-ltb, le-ltb, ltb-false, cases_lt}
use Rattle.std.proofs.lemmas.Bool.Decides.{nat_tests}
use Rattle.asn1_types.specs.declared.row.Class.{Class}
use Rattle.asn1_types.specs.Writing.{high_digits, base_128, digits_256, base_256, natural_octets, integer_octets, identifier, length_octets}
use Rattle.asn1_types.specs.Whole.{number_256}
use Rattle.osi_base.specs.Octets.{AreOctets}
use Rattle.osi_base.proofs.OctetLaws.{octets_tail}
use Rattle.ber_spelling.specs.Primitives.{is_padded}
use Rattle.ber_spelling.specs.Spelling.{AreDigits, low_bits, number_128, IsBase128, IsIdentifier, IsLength, IsInteger, AreSubidentifiers}
use Rattle.ber_spelling.proofs.Digits.{high_step, high_append, low_step, low_append, nat_step, nat_append, nat_last}
use Rattle.ber_spelling.proofs.WrittenFields.{turned, turned_number, turned_length}

abbrev pub Small : List ℕ → Type 0
Small os = AllByRecursion (λ o. o < 256) os

pub small_of : (os : List ℕ) → AreOctets os → Small os
small_of [] h = tt
small_of (o ∷ os) h = (h.each 0, small_of os (octets_tail o os h))

-- ---- base 128

abbrev high : ℕ → List ℕ
high n = high_digits n n []

high_more : (n : ℕ) → 0 < n → high n ≡ high (n / 128) ++ ((128 + n % 128) ∷ [])
high_more n lt = sym (high_step n [] lt) ∙ high_append (n / 128) (n / 128) [] ((128 + n % 128) ∷ [])

high_of : (a d m : ℕ) → m ≡ 128 * a + (d - 128) → 0 < m → 128 ≤ d → d < 256 → high m ≡ high a ++ (d ∷ [])
high_of a d m e some ge lt =
    let q : m / 128 ≡ a = omega arith in
    let r : 128 + m % 128 ≡ d = omega arith in
    high_more m some ∙ (λ i. high (q i) ++ (r i ∷ []))

last_128 : (a last : ℕ) → last < 128 → base_128 (128 * a + last) ≡ high a ++ (last ∷ [])
unfolding base_128
last_128 a last lt =
    let q : (128 * a + last) / 128 ≡ a = omega arith in
    let r : (128 * a + last) % 128 ≡ last = omega arith in
    high_append ((128 * a + last) / 128) ((128 * a + last) / 128) [] (((128 * a + last) % 128) ∷ []) ∙ (λ i. high (q i) ++ (r i ∷ []))

low_last : (d : ℕ) → d < 128 → low_bits d ≡ d
low_last d lt = rw (lt-ltb d 128 lt) refl

low_high : (d : ℕ) → 128 ≤ d → low_bits d ≡ d - 128
low_high d ge = rw (le-ltb d 128 ge) refl

digits_128 : (a : ℕ) (ds : List ℕ) → 0 < a → AreDigits ds → base_128 (number_128 a ds) ≡ high a ++ ds
digits_128 a [] some h = absurd h
digits_128 a (last ∷ []) some h = ap (λ (k : ℕ). base_128 (128 * a + k)) (low_last last h) ∙ last_128 a last h
digits_128 a (d ∷ next ∷ ds) some h =
    ap (λ (k : ℕ). base_128 (number_128 (128 * a + k) (next ∷ ds))) (low_high d h.0)
    ∙ digits_128 (128 * a + (d - 128)) (next ∷ ds) (omega arith) h.2
    ∙ ap (λ (l : List ℕ). l ++ (next ∷ ds)) (high_of a d (128 * a + (d - 128)) refl (omega arith) h.0 h.1)
    ∙ append_assoc (high a) (d ∷ []) (next ∷ ds)

pub unique_128 : (ds : List ℕ) (n : ℕ) → IsBase128 ds n → ds ≡ base_128 n
unique_128 [] n h = absurd h.are
unique_128 (last ∷ []) n h =
    let low = low_last last h.are in
    let e : 128 * 0 + last ≡ n = ap (λ (k : ℕ). 128 * 0 + k) (sym low) ∙ h.number in
    sym (last_128 0 last h.are) ∙ ap base_128 e
unique_128 (d ∷ next ∷ ds) n h =
    let ne : d ≢ 128 = h.shortest in
    let ge : 128 ≤ d = h.are.0 in
    let some : 0 < d - 128 = above d ge ne in
    let x : 128 * 0 + low_bits d ≡ d - 128 = ap (λ (k : ℕ). 128 * 0 + k) (low_high d ge) ∙ none (d - 128) in
    let e : number_128 (d - 128) (next ∷ ds) ≡ n = ap (λ (k : ℕ). number_128 k (next ∷ ds)) (sym x) ∙ h.number in
    ap (λ (l : List ℕ). l ++ (next ∷ ds)) (sym (high_of 0 d (d - 128) (sym (none (d - 128))) some ge h.are.1))
    ∙ sym (digits_128 (d - 128) (next ∷ ds) some h.are.2) ∙ ap base_128 e
  where
    none : (k : ℕ) → 128 * 0 + k ≡ k
    none k = omega arith

    above : (d : ℕ) → 128 ≤ d → d ≢ 128 → 0 < d - 128
    above d ge ne = omega arith

-- ---- base 256

abbrev low : ℕ → List ℕ
low n = digits_256 n n []

low_of : (a d m : ℕ) → m ≡ 256 * a + d → 0 < m → d < 256 → low m ≡ low a ++ (d ∷ [])
low_of a d m e some lt =
    let q : m / 256 ≡ a = omega arith in
    let r : m % 256 ≡ d = omega arith in
    sym (low_step m [] some) ∙ low_append (m / 256) (m / 256) [] ((m % 256) ∷ []) ∙ (λ i. low (q i) ++ (r i ∷ []))

low_digits : (a : ℕ) (ds : List ℕ) → 0 < a → Small ds → low (number_256 a ds) ≡ low a ++ ds
low_digits a [] some s = sym (append-nil (low a))
low_digits a (d ∷ ds) some s =
    low_digits (256 * a + d) ds (omega arith) s.1
    ∙ ap (λ (l : List ℕ). l ++ ds) (low_of a d (256 * a + d) refl (omega arith) s.0)
    ∙ append_assoc (low a) (d ∷ []) ds

pub unique_256 : (ds : List ℕ) (n : ℕ) → Small ds → number_256 0 ds ≡ n → 0 < slice_index ds 0 → ds ≡ base_256 n
unfolding base_256
unique_256 [] n s e some = absurd (omega arith)
unique_256 (d ∷ ds) n s e some =
    let first : 256 * 0 + d ≡ d = omega arith in
    let number : number_256 d ds ≡ n = ap (λ (k : ℕ). number_256 k ds) (sym first) ∙ e in
    ap (λ (l : List ℕ). l ++ ds) (sym (low_of 0 d d (sym first) some s.0)) ∙ sym (low_digits d ds some s.1) ∙ ap low number

-- ---- identifiers and lengths

pub unique_identifier : (class : Class) (constructed : Bool) (number : ℕ) (head : List ℕ) → IsIdentifier class constructed number head → head ≡ identifier class constructed number
unique_identifier class constructed number [] h = absurd h
unique_identifier class constructed number (first ∷ digits) (inl p) = rw (lt-ltb number 31 p.0) (λ i. p.1 i ∷ p.2 i)
unique_identifier class constructed number (first ∷ digits) (inr p) = rw (le-ltb number 31 p.0) (λ i. p.1 i ∷ unique_128 digits number p.2 i)

pub unique_length : (size : List ℕ) (n : ℕ) → Small size → IsLength true size n → size ≡ length_octets n
unique_length [] n s h = absurd h
unique_length (first ∷ digits) n s (inl p) = rw (lt-ltb n 128 (omega (arith, p.0, p.2))) (λ i. sym p.2 i ∷ p.1 i)
unique_length (first ∷ digits) n s (inr p) =
    let least = p.shortest refl in
    let d = unique_256 digits n s.1 p.number least.1 in
    let e : first ≡ 128 + length (base_256 n) = p.size ∙ ap (λ (l : List ℕ). 128 + length l) d in
    rw (le-ltb n 128 least.0) (λ i. e i ∷ d i)

-- ---- INTEGER

abbrev nat : ℕ → List ℕ
nat n = natural_octets n n []

nat_of : (a d m : ℕ) → m ≡ 256 * a + d → 128 ≤ m → d < 256 → nat m ≡ nat a ++ (d ∷ [])
nat_of a d m e some lt =
    let q : m / 256 ≡ a = omega arith in
    let r : m % 256 ≡ d = omega arith in
    sym (nat_step m [] some) ∙ nat_append (m / 256) (m / 256) [] ((m % 256) ∷ []) (omega arith) ∙ (λ i. nat (q i) ++ (r i ∷ []))

nat_digits : (a : ℕ) (ds : List ℕ) → 0 < a → Small ds → nat (number_256 a ds) ≡ nat a ++ ds
nat_digits a [] some s = sym (append-nil (nat a))
nat_digits a (d ∷ ds) some s =
    nat_digits (256 * a + d) ds (omega arith) s.1
    ∙ ap (λ (l : List ℕ). l ++ ds) (nat_of a d (256 * a + d) refl (omega arith) s.0)
    ∙ append_assoc (nat a) (d ∷ []) ds

second_high : (e : ℕ) (b : Bool) → (nat_lt e 128 || b) ≡ false → 128 ≤ e
second_high e b h = ltb-false e 128 (first_test (nat_lt e 128) b h)
  where
    first_test : (x y : Bool) → (x || y) ≡ false → x ≡ false
    first_test true y h = h
    first_test false y h = refl

unique_nat : (c : List ℕ) → 1 ≤ length c → slice_index c 0 < 128 → Small c → is_padded c ≡ false → c ≡ nat (number_256 0 c)
unique_nat [] some lt s fresh = absurd (omega arith)
unique_nat (d ∷ []) some lt s fresh =
    let first : d ≡ 256 * 0 + d = omega arith in
    sym (nat_last d [] lt) ∙ ap nat first
unique_nat (zero ∷ e ∷ es) some lt s fresh =
    let ge : 128 ≤ e = second_high e false fresh in
    let first : e ≡ 256 * (256 * 0 + 0) + e = omega arith in
    let none : e ≡ 256 * 0 + e = omega arith in
    ap (λ (l : List ℕ). l ++ es) (sym (nat_of 0 e e none ge s.1.0)) ∙ sym (nat_digits e es (omega arith) s.1.1) ∙ ap (λ (k : ℕ). nat (number_256 k es)) first
unique_nat (suc d ∷ e ∷ es) some lt s fresh =
    let first : suc d ≡ 256 * 0 + suc d = omega arith in
    ap (λ (l : List ℕ). l ++ (e ∷ es)) (sym (nat_last (suc d) [] lt)) ∙ sym (nat_digits (suc d) (e ∷ es) (omega arith) s.1) ∙ ap (λ (k : ℕ). nat (number_256 k (e ∷ es))) first

turned_back : (c : List ℕ) → Small c → turned (turned c) ≡ c
turned_back [] s = refl
turned_back (o ∷ os) s = let lt : o < 256 = s.0 in let e : 255 - (255 - o) ≡ o = omega arith in λ i. e i ∷ turned_back os s.1 i

turned_small : (c : List ℕ) → Small (turned c)
turned_small [] = tt
turned_small (o ∷ os) = (omega arith, turned_small os)

turned_low : (c : List ℕ) → 128 ≤ slice_index c 0 → slice_index (turned c) 0 < 128
turned_low [] ge = omega arith
turned_low (o ∷ os) ge = let high : 128 ≤ o = ge in omega arith

turned_padded : (c : List ℕ) → Small c → is_padded c ≡ is_padded (turned c)
turned_padded [] s = refl
turned_padded (x ∷ []) s = refl
turned_padded (x ∷ y ∷ os) s = by_tests x y s.0 s.1.0
  where
    by_tests : (x y : ℕ) → x < 256 → y < 256 → is_padded (x ∷ y ∷ os) ≡ is_padded ((255 - x) ∷ (255 - y) ∷ turned os)
    by_tests x y lt less = grind (arith, nat_tests)

pos_one : (c : List ℕ) → Small c → 1 ≤ length c → is_padded c ≡ false → slice_index c 0 < 128 → c ≡ integer_octets (pos (number_256 0 c))
unfolding integer_octets
pos_one c s some fresh lt = unique_nat c some lt s fresh

neg_one : (c : List ℕ) → Small c → 1 ≤ length c → is_padded c ≡ false → 128 ≤ slice_index c 0 → c ≡ integer_octets (negsuc (256 ^ length c - suc (number_256 0 c)))
unfolding integer_octets
neg_one c s some fresh ge =
    let t : List ℕ = turned c in
    let len : length t ≡ length c = turned_length c in
    let sum : number_256 0 c + number_256 0 t + 1 ≡ (0 + 0 + 1) * 256 ^ length c = turned_number 0 0 c s in
    let number : number_256 0 t ≡ 256 ^ length c - suc (number_256 0 c) = omega (arith, sum) in
    let one : t ≡ nat (number_256 0 t) = unique_nat t (omega (arith, len, some)) (turned_low c ge) (turned_small c) (sym (turned_padded c s) ∙ fresh) in
    sym (turned_back c s) ∙ ap turned one ∙ ap (λ (k : ℕ). turned (nat k)) number

pub unique_integer : (c : List ℕ) (z : ℤ) → AreOctets c → IsInteger c z → c ≡ integer_octets z
unique_integer c z are h = by_sign (cases_lt (slice_index c 0) 128)
  where
    by_sign : (slice_index c 0 < 128) ⊎ (128 ≤ slice_index c 0) → c ≡ integer_octets z
    by_sign (inl lt) =
        let e : pos (number_256 0 c) ≡ z = ap (λ (b : Bool). cond b (pos (number_256 0 c)) (negsuc (256 ^ length c - suc (number_256 0 c)))) (sym (lt-ltb (slice_index c 0) 128 lt)) ∙ h.number in
        pos_one c (small_of c are) h.some h.shortest lt ∙ ap integer_octets e
    by_sign (inr ge) =
        let e : negsuc (256 ^ length c - suc (number_256 0 c)) ≡ z = ap (λ (b : Bool). cond b (pos (number_256 0 c)) (negsuc (256 ^ length c - suc (number_256 0 c)))) (sym (le-ltb (slice_index c 0) 128 ge)) ∙ h.number in
        neg_one c (small_of c are) h.some h.shortest ge ∙ ap integer_octets e

-- ---- OBJECT IDENTIFIER

pub unique_subidentifiers : (ns c : List ℕ) → AreSubidentifiers ns c → c ≡ flat_map base_128 ns
unique_subidentifiers [] c h = h
unique_subidentifiers (n ∷ ns) c h = h.2 ∙ (λ i. unique_128 h.0 n h.3 i ++ unique_subidentifiers ns h.1 h.4 i)
