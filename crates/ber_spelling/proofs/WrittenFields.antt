-- Fields that are written are spelled so.
use Rattle.std.proofs.Common.{◌≡◌, ℕ, zero, suc, ◌+◌, ◌-◌, ◌*◌, ◌/◌, ◌%◌, ◌^◌, ◌<◌, ◌≤◌, ℤ, pos, negsuc, Bool, true, false, ◌||◌, cond, List, [], ◌∷◌, ◌++◌, map, length, refl, sym, ap, ◌∙◌, arith, length-append, inl, inr}
use Rattle.std.specs.Prelude.{slice_index, nat_lt}
use Rattle.std.specs.List.{AllByRecursion, flat_map}
use Rattle.std.proofs.Math.Nat.{pow-suc, mul_assoc, mul_comm}
use Rattle.std.proofs.lemmas.Bool.{le-ltb, lt-ltb, ltb-true, ltb-false, ne_eqb, lt-leb}
use Rattle.asn1_types.specs.declared.row.Class.{Class}
use Rattle.asn1_types.specs.declared.row.Tag as tags
use Rattle.asn1_types.specs.Whole.{number_256}
use Rattle.ber_spelling.specs.Primitives.{is_padded, signed_of}
use Rattle.ber_spelling.specs.Spelling.{IsIdentifier, IsLength, IsDefinite, IsInteger, AreSubidentifiers}
use Rattle.asn1_types.specs.Writing.{natural_octets, integer_octets, identifier, base_128, base_256, length_octets, definite}
use Rattle.asn1_types.specs.Tags.{leading}
use Rattle.ber_spelling.proofs.Digits.{split_256, base_128_is, base_256_few, base_256_number, base_256_first, some_first, by_turns}

-- ---- identifiers, lengths

pub identifier_is : (class : Class) (constructed : Bool) (number : ℕ) → IsIdentifier class constructed number (identifier class constructed number)
identifier_is class constructed number = by_test (nat_lt number 31) refl
  where
    by_test : (x : Bool) → nat_lt number 31 ≡ x → IsIdentifier class constructed number (cond x ((leading class constructed + number) ∷ []) ((leading class constructed + 31) ∷ base_128 number))
    by_test true e = inl (ltb-true number 31 e, refl, refl)
    by_test false e = inr (ltb-false number 31 e, refl, base_128_is number)

pub length_is : (strict : Bool) (n : ℕ) → n < 2 ^ 64 → IsLength strict (length_octets n) n
length_is strict n lt = by_test (nat_lt n 128) refl
  where
    by_test : (x : Bool) → nat_lt n 128 ≡ x → IsLength strict (cond x (n ∷ []) ((128 + length (base_256 n)) ∷ base_256 n)) n
    by_test true e = inl (ltb-true n 128 e, refl, refl)
    by_test false e =
        let ge : 128 ≤ n = ltb-false n 128 e in
        let first : 0 < slice_index (base_256 n) 0 = base_256_first n (omega arith) in
        inr (record { size = refl; some = some_first (base_256 n) first; few = base_256_few n lt; number = base_256_number n; shortest = λ s. (ge, first) })

pub contents_short : (constructed : Bool) (tag : tags.Tag) (c : List ℕ) (most : ℕ) → length (definite constructed tag c) < most → length c < most
contents_short constructed tag c most lt =
    let a = length-append (identifier tag.class constructed tag.number) (length_octets (length c) ++ c) in
    let b = length-append (length_octets (length c)) c in
    omega arith

pub definite_is : (strict constructed : Bool) (tag : tags.Tag) (P : List ℕ → Type 0) (c : List ℕ) → length c < 2 ^ 64 → P c → IsDefinite strict constructed tag P (definite constructed tag c)
definite_is strict constructed tag P c lt p = record {
  head = identifier tag.class constructed tag.number;
  size = length_octets (length c);
  contents = c;
  is_identifier = identifier_is tag.class constructed tag.number;
  is_length = length_is strict (length c) lt;
  holds = p;
  are = refl;
}

-- ---- INTEGER

nat_number : (n : ℕ) → number_256 0 (natural_octets n n []) ≡ n
nat_number n = by_turns (λ m b l. number_256 0 l ≡ number_256 m b)
    (λ m b lt. let same : 256 * 0 + m ≡ m = omega arith in ap (λ (k : ℕ). number_256 k b) same)
    (λ m b l le h. let s = split_256 m in h ∙ ap (λ (k : ℕ). number_256 k b) s.0) n n [] (omega arith)

nat_first : (n : ℕ) → slice_index (natural_octets n n []) 0 < 128
nat_first n = by_turns (λ m b l. slice_index l 0 < 128) (λ m b lt. lt) (λ m b l le h. h) n n [] (omega arith)

nat_some : (n : ℕ) → 1 ≤ length (natural_octets n n [])
nat_some n = by_turns (λ m b l. 1 ≤ length l) (λ m b lt. omega arith) (λ m b l le h. h) n n [] (omega arith)

abbrev Small : List ℕ → Type 0
Small os = AllByRecursion (λ o. o < 256) os

nat_small : (n : ℕ) → Small (natural_octets n n [])
nat_small n = by_turns (λ m b l. Small b → Small l) (λ m b lt s. (omega arith, s)) (λ m b l le h s. h (let t = split_256 m in t.1, s)) n n [] (omega arith) tt

nat_few : (n : ℕ) → n < 2 ^ 63 → length (natural_octets n n []) ≤ 8
nat_few n lt = by_turns (λ m b l. (k : ℕ) → m < 128 * 256 ^ k → length l ≤ k + 1 + length b) (λ m b lt k h. omega arith) more n n [] (omega arith) 7 lt
  where
    more : (m : ℕ) (b l : List ℕ) → 128 ≤ m → ((k : ℕ) → m / 256 < 128 * 256 ^ k → length l ≤ k + 1 + length ((m % 256) ∷ b)) → (k : ℕ) → m < 128 * 256 ^ k → length l ≤ k + 1 + length b
    more m b l le h zero lt = absurd (omega arith)
    more m b l le h (suc k) lt =
        let s = split_256 m in
        let p : 256 ^ suc k ≡ 256 ^ k * 256 = pow-suc 256 k in
        let below : m / 256 < 128 * 256 ^ k = omega arith in
        omega (arith, h k below)

-- what stands behind a first octet of 0 has bit 8
abbrev Fresh : ℕ → List ℕ → Type 0
Fresh n [] = Unit {0}
Fresh n (o ∷ b) = n ≡ 0 → 128 ≤ o

fresh_first : (n : ℕ) (b : List ℕ) → n < 128 → Fresh n b → is_padded (n ∷ b) ≡ false
fresh_first n [] lt f = refl
fresh_first zero (o ∷ b) lt f = let ge : 128 ≤ o = f refl in rw (le-ltb o 128 ge) refl
fresh_first (suc n) (o ∷ b) lt f = rw (ne_eqb (suc n) 0 (λ e. omega arith), ne_eqb (suc n) 255 (λ e. omega arith)) refl

nat_fresh : (n : ℕ) → is_padded (natural_octets n n []) ≡ false
nat_fresh n = by_turns (λ m b l. Fresh m b → is_padded l ≡ false) (λ m b lt f. fresh_first m b lt f) (λ m b l le h f. h (λ e. let s = split_256 m in omega arith)) n n [] (omega arith) tt

-- each bit turned
abbrev pub turned : List ℕ → List ℕ
turned os = map (λ octet. 255 - octet) os

regroup : (s p : ℕ) → (256 * s) * p ≡ s * (p * 256)
regroup s p = ap (λ (k : ℕ). k * p) (mul_comm 256 s) ∙ mul_assoc s 256 p ∙ ap (λ (k : ℕ). s * k) (mul_comm 256 p)

pub turned_number : (a b : ℕ) (os : List ℕ) → Small os → number_256 a os + number_256 b (turned os) + 1 ≡ (a + b + 1) * 256 ^ length os
turned_number a b [] h = omega arith
turned_number a b (o ∷ os) h =
    let lt : o < 256 = h.0 in
    let more = turned_number (256 * a + o) (256 * b + (255 - o)) os h.1 in
    let sum : 256 * a + o + (256 * b + (255 - o)) + 1 ≡ 256 * (a + b + 1) = omega arith in
    more ∙ ap (λ (k : ℕ). k * 256 ^ length os) sum ∙ regroup (a + b + 1) (256 ^ length os) ∙ ap (λ (k : ℕ). (a + b + 1) * k) (sym (pow-suc 256 (length os)))

turned_fresh : (os : List ℕ) → slice_index os 0 < 128 → Small os → is_padded os ≡ false → is_padded (turned os) ≡ false
turned_fresh [] lt h e = refl
turned_fresh (x ∷ []) lt h e = refl
turned_fresh (zero ∷ y ∷ os) lt h e =
    let small : y < 256 = h.1.0 in
    let ge : 128 ≤ y = ltb-false y 128 (first_test (nat_lt y 128) e) in
    let low : 255 - y < 128 = omega arith in
    rw (lt-leb 128 (255 - y) low) refl
  where
    first_test : (b : Bool) → (b || false) ≡ false → b ≡ false
    first_test true e = e
    first_test false e = refl
turned_fresh (suc x ∷ y ∷ os) lt h e = rw (ne_eqb (255 - suc x) 0 (λ e. omega arith), ne_eqb (255 - suc x) 255 (λ e. omega arith)) refl

turned_first : (os : List ℕ) → 1 ≤ length os → slice_index os 0 < 128 → 128 ≤ slice_index (turned os) 0
turned_first [] some lt = absurd (omega arith)
turned_first (x ∷ os) some lt = omega arith

pub turned_length : (os : List ℕ) → length (turned os) ≡ length os
turned_length [] = refl
turned_length (o ∷ os) = ap suc (turned_length os)

turned_signed : (n : ℕ) → signed_of (turned (natural_octets n n [])) ≡ negsuc n
turned_signed n =
    let os : List ℕ = natural_octets n n [] in
    let ge : 128 ≤ slice_index (turned os) 0 = turned_first os (nat_some n) (nat_first n) in
    let sum : number_256 0 os + number_256 0 (turned os) + 1 ≡ (0 + 0 + 1) * 256 ^ length os = turned_number 0 0 os (nat_small n) in
    let number : number_256 0 os ≡ n = nat_number n in
    let len : length (turned os) ≡ length os = turned_length os in
    let whole : 256 ^ length (turned os) ≡ 256 ^ length os = ap (λ (k : ℕ). 256 ^ k) len in
    rw (le-ltb (slice_index (turned os) 0) 128 ge) (ap negsuc (omega arith))

-- a number of 64 bits
abbrev pub Has64 : ℤ → Type 0
Has64 (pos n) = n < 2 ^ 63
Has64 (negsuc n) = n < 2 ^ 63

pub integer_is : (z : ℤ) → Has64 z → IsInteger (integer_octets z) z
unfolding integer_octets
integer_is (pos n) lt =
    let first : slice_index (natural_octets n n []) 0 < 128 = nat_first n in
    record {
      some = nat_some n;
      few = nat_few n lt;
      shortest = nat_fresh n;
      number = rw (lt-ltb (slice_index (natural_octets n n []) 0) 128 first) (ap pos (nat_number n));
    }
integer_is (negsuc n) lt =
    let len : length (turned (natural_octets n n [])) ≡ length (natural_octets n n []) = turned_length (natural_octets n n []) in
    record {
      some = omega (arith, nat_some n);
      few = omega (arith, nat_few n lt);
      shortest = turned_fresh (natural_octets n n []) (nat_first n) (nat_small n) (nat_fresh n);
      number = turned_signed n;
    }

-- ---- OBJECT IDENTIFIER

pub subidentifiers_are : (ns : List ℕ) → AreSubidentifiers ns (flat_map base_128 ns)
subidentifiers_are [] = refl
subidentifiers_are (n ∷ ns) = (base_128 n, flat_map base_128 ns, refl, base_128_is n, subidentifiers_are ns)
