-- How many octets are written.
use Rattle.std.proofs.Common.{◌≡◌, ℕ, zero, suc, ◌+◌, ◌-◌, ◌*◌, ◌/◌, ◌%◌, ◌^◌, ◌<◌, ◌≤◌, Bool, true, false, cond, List, [], ◌∷◌, ◌++◌, length, map, drop, get_or, Option, Some, None, refl, sym, ap, ◌∙◌, arith, length-append, inl, inr}
use Rattle.std.specs.Prelude.{nat_lt, nat_eq}
use Rattle.std.specs.List.{flat_map}
use Rattle.std.proofs.lemmas.Bool.{cases_lt}
use Rattle.asn1_types.specs.declared.row.Part.{Part}
use Rattle.asn1_types.specs.Value.{Value}
use Rattle.asn1_types.specs.ValueView.{parts_of, values_of}
use Rattle.asn1_types.specs.Writing.{Writer, high_digits, base_128, digits_256, base_256, natural_octets, part_contents, parts_contents, values_contents}
use Rattle.ber_spelling.proofs.Digits.{high_step, high_append, low_step, low_append, nat_step, nat_append, nat_last}
use Rattle.ber_spelling.proofs.WriteLaws.{parts_before, parts_none, values_before}

one_more : (l : List ℕ) (d : ℕ) → length (l ++ d ∷ []) ≡ suc (length l)
one_more l d = let e = length-append l (d ∷ []) in omega arith

-- ---- digits

pub high_more : (n : ℕ) → 0 < n → length (high_digits n n []) ≡ suc (length (high_digits (n / 128) (n / 128) []))
high_more n lt = ap length (sym (high_step n [] lt)) ∙ ap length (high_append (n / 128) (n / 128) [] ((128 + n % 128) ∷ [])) ∙ one_more (high_digits (n / 128) (n / 128) []) (128 + n % 128)

pub base_128_more : (n : ℕ) → length (base_128 n) ≡ suc (length (high_digits (n / 128) (n / 128) []))
unfolding base_128
base_128_more n = ap length (high_append (n / 128) (n / 128) [] ((n % 128) ∷ [])) ∙ one_more (high_digits (n / 128) (n / 128) []) (n % 128)

high_few : (t n : ℕ) (b : List ℕ) → length (high_digits t n b) ≤ t + length b
high_few zero n b = omega arith
high_few (suc t) n b = by_test (nat_eq n 0) (high_few t (n / 128) ((128 + n % 128) ∷ b))
  where
    by_test : (x : Bool) → length (high_digits t (n / 128) ((128 + n % 128) ∷ b)) ≤ t + length ((128 + n % 128) ∷ b) → length (cond x b (high_digits t (n / 128) ((128 + n % 128) ∷ b))) ≤ suc t + length b
    by_test true le = omega arith
    by_test false le = omega arith

pub base_128_few : (n : ℕ) → length (base_128 n) ≤ n / 128 + 1
base_128_few n = let e = base_128_more n in let le = high_few (n / 128) (n / 128) [] in omega arith

pub low_more : (n : ℕ) → 0 < n → length (digits_256 n n []) ≡ suc (length (digits_256 (n / 256) (n / 256) []))
low_more n lt = ap length (sym (low_step n [] lt)) ∙ ap length (low_append (n / 256) (n / 256) [] ((n % 256) ∷ [])) ∙ one_more (digits_256 (n / 256) (n / 256) []) (n % 256)

pub base_256_is : (n : ℕ) → length (base_256 n) ≡ length (digits_256 n n [])
unfolding base_256
base_256_is n = refl

pub nat_more : (n : ℕ) → 128 ≤ n → length (natural_octets n n []) ≡ suc (length (natural_octets (n / 256) (n / 256) []))
nat_more n le = ap length (sym (nat_step n [] le)) ∙ ap length (nat_append (n / 256) (n / 256) [] ((n % 256) ∷ []) (omega arith)) ∙ one_more (natural_octets (n / 256) (n / 256) []) (n % 256)

pub nat_one : (n : ℕ) → n < 128 → length (natural_octets n n []) ≡ 1
nat_one n lt = ap length (nat_last n [] lt)

nat_few : (t n : ℕ) (b : List ℕ) → length (natural_octets t n b) ≤ suc t + length b
nat_few zero n b = omega arith
nat_few (suc t) n b = by_test (nat_lt n 128) (nat_few t (n / 256) ((n % 256) ∷ b))
  where
    by_test : (x : Bool) → length (natural_octets t (n / 256) ((n % 256) ∷ b)) ≤ suc t + length ((n % 256) ∷ b) → length (cond x (n ∷ b) (natural_octets t (n / 256) ((n % 256) ∷ b))) ≤ suc (suc t) + length b
    by_test true le = omega arith
    by_test false le = omega arith

pub natural_few : (n : ℕ) → length (natural_octets n n []) ≤ n / 256 + 2
natural_few n = elim (cases_lt n 128) [ inl lt ↦ omega (arith, nat_one n lt) | inr ge ↦ omega (arith, nat_more n ge, nat_few (n / 256) (n / 256) []) ]

pub turned_length : (l : List ℕ) → length (map (λ octet. 255 - octet) l) ≡ length l
turned_length [] = refl
turned_length (x ∷ l) = ap suc (turned_length l)

-- ---- room for one more, before those that stand behind it

pub each_room : (f : ℕ → List ℕ) (ns : List ℕ) (i k : ℕ) → k ≡ suc i → i < length ns → length (f (get_or ns i 0)) + length (flat_map f (drop k ns)) ≤ length (flat_map f ns)
each_room f [] i k e lt = absurd (omega arith)
each_room f (n ∷ ns) zero k e lt = rw e (let s = length-append (f n) (flat_map f ns) in omega arith)
each_room f (n ∷ ns) (suc i) k e lt =
    let h = each_room f ns i (suc i) refl (omega arith) in
    rw e (let s = length-append (f n) (flat_map f ns) in omega arith)

values_within : (f : Writer) (vs : List Value) (i : ℕ) → length (values_contents f (values_of (drop i vs))) ≤ length (values_contents f (values_of vs))
values_within f [] zero = omega arith
values_within f [] (suc i) = omega arith
values_within f (v ∷ vs) zero = omega arith
values_within f (v ∷ vs) (suc i) =
    let h = values_within f vs i in
    let s = length-append (f None v) (values_contents f (values_of vs)) in omega arith

pub values_room : (f : Writer) (vs : List Value) (i k : ℕ) (v : Value) → k ≡ suc i → i < length vs → v ≡ get_or vs i v → length (f None v) + length (values_contents f (values_of (drop k vs))) ≤ length (values_contents f (values_of vs))
values_room f vs i k v e lt is =
    let h = values_within f vs i in
    let s = ap length (values_before f vs i v lt is) ∙ length-append (f None v) (values_contents f (values_of (drop (suc i) vs))) in
    rw e (omega arith)

parts_within : (f : ℕ → Writer) (ps : List Part) (vs : List (Option Value)) (i : ℕ) → length (parts_contents f (drop i ps) (parts_of (drop i vs))) ≤ length (parts_contents f ps (parts_of vs))
parts_within f [] vs i = rw (parts_none f [] vs i (inl (omega arith))) (omega arith)
parts_within f (p ∷ ps) [] i = rw (parts_none f (p ∷ ps) [] i (inr (omega arith))) (omega arith)
parts_within f (p ∷ ps) (o ∷ vs) zero = omega arith
parts_within f (p ∷ ps) (None ∷ vs) (suc i) = parts_within f ps vs i
parts_within f (p ∷ ps) (Some v ∷ vs) (suc i) =
    let h = parts_within f ps vs i in
    let s = length-append (f p.inner.0 None v) (parts_contents f ps (parts_of vs)) in omega arith

pub parts_room : (f : ℕ → Writer) (ps : List Part) (vs : List (Option Value)) (i k : ℕ) (p : Part) (o : Option Value) → k ≡ suc i → i < length ps → i < length vs → p ≡ get_or ps i p → o ≡ get_or vs i o
    → length (part_contents f p o) + length (parts_contents f (drop k ps) (parts_of (drop k vs))) ≤ length (parts_contents f ps (parts_of vs))
parts_room f ps vs i k p o e lt more is has =
    let h = parts_within f ps vs i in
    let s = ap length (parts_before f ps vs i p o lt more is has) ∙ length-append (part_contents f p o) (parts_contents f (drop (suc i) ps) (parts_of (drop (suc i) vs))) in
    rw e (omega arith)

-- ---- few octets hold a number

few_none : (m : ℕ) → m < 1 → length (high_digits m m []) ≤ 0
few_none zero lt = omega arith
few_none (suc m) lt = absurd (omega arith)

few_next : (x k : ℕ) → ((m : ℕ) → m < x → length (high_digits m m []) ≤ k) → (m : ℕ) → m < 128 * x → length (high_digits m m []) ≤ suc k
few_next x k h zero lt = omega arith
few_next x k h (suc m) lt = let some : 0 < suc m = omega arith in let less : suc m / 128 < x = omega arith in omega (arith, high_more (suc m) some, h (suc m / 128) less)

few_five : (m : ℕ) → m < 34359738368 → length (high_digits m m []) ≤ 5
few_five = few_next 268435456 4 (few_next 2097152 3 (few_next 16384 2 (few_next 128 1 (few_next 1 0 few_none))))

few_four : (m : ℕ) → m < 268435456 → length (high_digits m m []) ≤ 4
few_four = few_next 2097152 3 (few_next 16384 2 (few_next 128 1 (few_next 1 0 few_none)))

pub tag_few : (n : ℕ) → n < 2 ^ 32 → length (base_128 n) ≤ 5
tag_few n lt = let e = base_128_more n in let le = few_four (n / 128) (omega arith) in omega arith

pub subidentifier_few : (n : ℕ) → n < 2 ^ 40 → length (base_128 n) ≤ 6
subidentifier_few n lt = let e = base_128_more n in let le = few_five (n / 128) (omega arith) in omega arith

nat_next : (x k : ℕ) → 1 ≤ k → ((m : ℕ) → m < x → length (natural_octets m m []) ≤ k) → (m : ℕ) → m < 256 * x → length (natural_octets m m []) ≤ suc k
nat_next x k some h m lt =
    elim (cases_lt m 128) [
      | inl low ↦ omega (arith, nat_one m low)
      | inr ge ↦ let less : m / 256 < x = omega arith in omega (arith, nat_more m ge, h (m / 256) less)
    ]

nat_low : (m : ℕ) → m < 128 → length (natural_octets m m []) ≤ 1
nat_low m lt = omega (arith, nat_one m lt)

natural_eight : (m : ℕ) → m < 9223372036854775808 → length (natural_octets m m []) ≤ 8
natural_eight =
    nat_next 36028797018963968 7 (omega arith) (nat_next 140737488355328 6 (omega arith) (nat_next 549755813888 5 (omega arith) (nat_next 2147483648 4 (omega arith)
    (nat_next 8388608 3 (omega arith) (nat_next 32768 2 (omega arith) (nat_next 128 1 (omega arith) nat_low))))))

pub natural_nine : (m : ℕ) → m < 2 ^ 64 → length (natural_octets m m []) ≤ 9
natural_nine m lt = nat_next 9223372036854775808 8 (omega arith) natural_eight m (omega arith)
