-- How octets compare, in pieces of which neither begins the other: what is told of the first pieces that differ is told of all.
use Rattle.std.proofs.Common.{◌≡◌, ◌≢◌, ℕ, zero, suc, ◌+◌, ◌-◌, ◌*◌, ◌<◌, ◌≤◌, ◌^◌, Bool, true, false, ◌&&◌, List, [], ◌∷◌, ◌++◌, length, get_or, take, drop, min, Some, None, refl, sym, ap, ◌∙◌, subst, arith, append_assoc, length-append, ◌⊎◌, inl, inr}
use Rattle.std.specs.Prelude.{if◌then◌else◌}
use Rattle.std.specs.List.{flat_map}
use Rattle.std.proofs.Math.Seq.{take-append_seam, take-length}
use Rattle.std.proofs.lemmas.List.{length-drop}
use Rattle.std.specs.Ordering.{ordering_then, nat_cmp, is_eq, is_lt}
use Rattle.std.specs.declared.cmp.Ordering.{Ordering}
use Rattle.std.specs.declared.cmp.Ordering.TheVariants.{Less, Equal, Greater}
use Rattle.std.proofs.lemmas.Bool.{false≢true, lt-ltb, le-ltb, eq-eqb, ne_eqb, cases_lt, le-leb, lt-leb}
use Rattle.asn1_types.specs.declared.row.Class.{Class}
use Rattle.asn1_types.specs.declared.row.Class.TheVariants.{Universal, Application, Context, Private}
use Rattle.asn1_types.specs.declared.row.Tag as tags
use Rattle.asn1_types.specs.Tags.{leading}
use Rattle.asn1_types.specs.Writing.{saturated, base_128, base_256, subidentifiers, identifier, length_octets, definite}
use Rattle.asn1_types.specs.Rising.{is_less}
use Rattle.asn1_types.specs.Whole.{number_256}
use Rattle.ber_spelling.specs.Spelling.{AreDigits}
use Rattle.ber_spelling.proofs.Digits.{base_128_is, base_256_number}
use Rattle.ber_writing.specs.declared.pieces.Compared.{Compared}
use Rattle.ber_writing.specs.Comparing.{compared, Decides, IsCompared, IsApart}
use Rattle.ber_writing.specs.Short.{told_less}
use Rattle.asn1_types.specs.Fits.{is_short}

-- ---- numbers

pub cmp_less : (x y : ℕ) → x < y → nat_cmp x y ≡ Less
cmp_less x y lt = rw (lt-ltb x y lt) refl

pub cmp_same : (x y : ℕ) → x ≡ y → nat_cmp x y ≡ Equal
cmp_same x y e = rw (le-ltb x y (omega arith), eq-eqb x y e) refl

pub cmp_greater : (x y : ℕ) → y < x → nat_cmp x y ≡ Greater
cmp_greater x y lt = rw (le-ltb x y (omega arith), ne_eqb x y (λ e. omega arith)) refl

pub cmp_up : (x y : ℕ) → nat_cmp x y ≡ nat_cmp (suc x) (suc y)
cmp_up x y = elim (cases_lt x y) [
  | inl lt ↦ cmp_less x y lt ∙ sym (cmp_less (suc x) (suc y) (omega arith))
  | inr ge ↦ elim (cases_lt y x) [
    | inl lt ↦ cmp_greater x y lt ∙ sym (cmp_greater (suc x) (suc y) (omega arith))
    | inr le ↦ cmp_same x y (omega arith) ∙ sym (cmp_same (suc x) (suc y) (omega arith))
  ]
]

-- ---- octets

-- octets compare as equal to themselves
pub compared_same : (xs : List ℕ) → compared xs xs ≡ Equal
compared_same [] = refl
compared_same (x ∷ xs) = rw (cmp_same x x refl) (compared_same xs)

-- a piece in front of both changes nothing
pub compared_front : (a x y : List ℕ) → compared (a ++ x) (a ++ y) ≡ compared x y
compared_front [] x y = refl
compared_front (o ∷ a) x y = rw (cmp_same o o refl) (compared_front a x y)

-- first pieces, and then what follows them
pub pieces : (o p : Ordering) (a b x y : List ℕ) → Decides o a b → p ≡ compared x y → ordering_then o p ≡ compared (a ++ x) (b ++ y)
pieces Equal p a b x y h e = e ∙ sym (ap (λ (c : List ℕ). compared (c ++ x) (b ++ y)) h ∙ compared_front b x y)
pieces Less p a b x y h e = sym (h x y)
pieces Greater p a b x y h e = sym (h x y)

-- pieces that differ decide, whatever follows them
pub extended : (o : Ordering) (a b x y : List ℕ) → o ≢ Equal → Decides o a b → Decides o (a ++ x) (b ++ y)
extended Equal a b x y ne h = absurd (ne refl)
extended Less a b x y ne h = λ z w. ap (λ (c : List ℕ). compared c ((b ++ y) ++ w)) (append_assoc a x z) ∙ ap (compared (a ++ (x ++ z))) (append_assoc b y w) ∙ h (x ++ z) (y ++ w)
extended Greater a b x y ne h = λ z w. ap (λ (c : List ℕ). compared c ((b ++ y) ++ w)) (append_assoc a x z) ∙ ap (compared (a ++ (x ++ z))) (append_assoc b y w) ∙ h (x ++ z) (y ++ w)

-- behind one piece they decide as alone
pub behind : (o : Ordering) (a x y : List ℕ) → Decides o x y → Decides o (a ++ x) (a ++ y)
behind Equal a x y h = ap (λ (c : List ℕ). a ++ c) h
behind Less a x y h = λ z w. ap (λ (c : List ℕ). compared c ((a ++ y) ++ w)) (append_assoc a x z) ∙ ap (compared (a ++ (x ++ z))) (append_assoc a y w) ∙ compared_front a (x ++ z) (y ++ w) ∙ h z w
behind Greater a x y h = λ z w. ap (λ (c : List ℕ). compared c ((a ++ y) ++ w)) (append_assoc a x z) ∙ ap (compared (a ++ (x ++ z))) (append_assoc a y w) ∙ compared_front a (x ++ z) (y ++ w) ∙ h z w

append_none : (xs : List ℕ) → xs ++ [] ≡ xs
append_none [] = refl
append_none (x ∷ xs) = ap (λ (l : List ℕ). x ∷ l) (append_none xs)

-- what decides compares so
pub so_compared : (o : Ordering) (xs ys : List ℕ) → Decides o xs ys → o ≡ compared xs ys
so_compared Equal xs ys h = sym (ap (λ (l : List ℕ). compared l ys) h ∙ compared_same ys)
so_compared Less xs ys h = sym (rw (append_none xs, append_none ys) at (h [] []))
so_compared Greater xs ys h = sym (rw (append_none xs, append_none ys) at (h [] []))

-- the octets in front decide, or what stands behind them
pub by_first : (x y : ℕ) (xs ys : List ℕ) → (x ≡ y → Decides (compared xs ys) xs ys) → Decides (compared (x ∷ xs) (y ∷ ys)) (x ∷ xs) (y ∷ ys)
by_first x y xs ys h =
    elim (cases_lt x y) [
      | inl lt ↦ rw (cmp_less x y lt) (λ z w. rw (cmp_less x y lt) refl)
      | inr ge ↦ elim (cases_lt y x) [
        | inl lt ↦ rw (cmp_greater x y lt) (λ z w. rw (cmp_greater x y lt) refl)
        | inr le ↦
            let same : x ≡ y = omega arith in
            rw (cmp_same x y same) (after x y xs ys same (compared xs ys) (h same))
      ]
    ]
  where
    after : (x y : ℕ) (xs ys : List ℕ) → x ≡ y → (o : Ordering) → Decides o xs ys → Decides o (x ∷ xs) (y ∷ ys)
    after x y xs ys same Equal h = λ i. same i ∷ h i
    after x y xs ys same Less h = λ z w. rw (cmp_same x y same) (h z w)
    after x y xs ys same Greater h = λ z w. rw (cmp_same x y same) (h z w)

-- octets that differ decide
pub differ_so : (xs ys : List ℕ) (i a b : ℕ) → i < length xs → i < length ys → get_or xs i 0 ≡ a → get_or ys i 0 ≡ b → a ≢ b → compared (drop i xs) (drop i ys) ≡ nat_cmp a b
differ_so [] ys i a b lt more e d ne = absurd (omega arith)
differ_so (x ∷ xs) [] i a b lt more e d ne = absurd (omega arith)
differ_so (x ∷ xs) (y ∷ ys) zero a b lt more e d ne = rw (e, d) (elim (cases_lt a b) [
  | inl less ↦ rw (cmp_less a b less) refl
  | inr ge ↦ let greater : b < a = grind arith in rw (cmp_greater a b greater) refl
])
differ_so (x ∷ xs) (y ∷ ys) (suc i) a b lt more e d ne = differ_so xs ys i a b (omega arith) (omega arith) e d ne

pub same_so : (xs ys : List ℕ) (i j a b : ℕ) → j ≡ suc i → i < length xs → i < length ys → get_or xs i 0 ≡ a → get_or ys i 0 ≡ b → a ≡ b → compared (drop i xs) (drop i ys) ≡ compared (drop j xs) (drop j ys)
same_so [] ys i j a b up lt more e d same = absurd (omega arith)
same_so (x ∷ xs) [] i j a b up lt more e d same = absurd (omega arith)
same_so (x ∷ xs) (y ∷ ys) zero j a b up lt more e d same = rw (up, e, d, cmp_same a b same) refl
same_so (x ∷ xs) (y ∷ ys) (suc i) j a b up lt more e d same = rw up (same_so xs ys i (suc i) a b refl (omega arith) (omega arith) e d same)

pub ends_so : (xs ys : List ℕ) (i : ℕ) → i ≤ length xs → i ≤ length ys → min (length xs) (length ys) ≤ i → compared (drop i xs) (drop i ys) ≡ nat_cmp (length xs) (length ys)
ends_so [] [] zero le more end = refl
ends_so [] (y ∷ ys) zero le more end = sym (cmp_less 0 (suc (length ys)) (omega arith))
ends_so (x ∷ xs) [] zero le more end = sym (cmp_greater (suc (length xs)) 0 (omega arith))
ends_so (x ∷ xs) (y ∷ ys) zero le more end = absurd (omega arith)
ends_so [] ys (suc i) le more end = absurd (omega arith)
ends_so (x ∷ xs) [] (suc i) le more end = absurd (omega arith)
ends_so (x ∷ xs) (y ∷ ys) (suc i) le more end = ends_so xs ys i (omega arith) (omega arith) (omega arith) ∙ cmp_up (length xs) (length ys)

-- pieces of one length decide
pub equal_lengths : (xs ys : List ℕ) → length xs ≡ length ys → Decides (compared xs ys) xs ys
equal_lengths [] [] e = refl
equal_lengths [] (y ∷ ys) e = absurd (omega arith)
equal_lengths (x ∷ xs) [] e = absurd (omega arith)
equal_lengths (x ∷ xs) (y ∷ ys) e = by_first x y xs ys (λ same. equal_lengths xs ys (omega arith))

-- pieces that differ at a place decide
pub differ : (xs ys : List ℕ) (i a b : ℕ) → i < length xs → i < length ys → get_or xs i 0 ≡ a → get_or ys i 0 ≡ b → a ≢ b → Decides (compared xs ys) xs ys
differ [] ys i a b lt more e d ne = absurd (omega arith)
differ (x ∷ xs) [] i a b lt more e d ne = absurd (omega arith)
differ (x ∷ xs) (y ∷ ys) zero a b lt more e d ne = by_first x y xs ys (λ same. absurd (ne (sym e ∙ same ∙ d)))
differ (x ∷ xs) (y ∷ ys) (suc i) a b lt more e d ne = by_first x y xs ys (λ same. differ xs ys i a b (omega arith) (omega arith) e d ne)

-- ---- digits, identifiers and lengths

pub digits_apart : (xs ys : List ℕ) → AreDigits xs → AreDigits ys → Decides (compared xs ys) xs ys
digits_apart [] ys h k = absurd h
digits_apart (x ∷ xs) [] h k = absurd k
digits_apart (x ∷ []) (y ∷ []) h k = by_first x y [] [] (λ same. refl)
digits_apart (x ∷ []) (y ∷ b ∷ ys) h k = let small : x < 128 = h in let great : 128 ≤ y = k.0 in by_first x y [] (b ∷ ys) (λ same. absurd (omega arith))
digits_apart (x ∷ a ∷ xs) (y ∷ []) h k = let great : 128 ≤ x = h.0 in let small : y < 128 = k in by_first x y (a ∷ xs) [] (λ same. absurd (omega arith))
digits_apart (x ∷ a ∷ xs) (y ∷ b ∷ ys) h k = by_first x y (a ∷ xs) (b ∷ ys) (λ same. digits_apart (a ∷ xs) (b ∷ ys) h.2 k.2)

pub base_128_apart : (n m : ℕ) → Decides (compared (base_128 n) (base_128 m)) (base_128 n) (base_128 m)
base_128_apart n m = digits_apart (base_128 n) (base_128 m) (base_128_is n).are (base_128_is m).are

leading_32 : (class : Class) (constructed : Bool) → (k : ℕ) × (leading class constructed ≡ 32 * k)
leading_32 Universal false = (0, refl)
leading_32 Universal true = (1, refl)
leading_32 Application false = (2, refl)
leading_32 Application true = (3, refl)
leading_32 Context false = (4, refl)
leading_32 Context true = (5, refl)
leading_32 Private false = (6, refl)
leading_32 Private true = (7, refl)

not_same : (class other : Class) (a b : Bool) (n : ℕ) → n < 31 → leading class a + n ≡ leading other b + 31 → ⊥
not_same class other a b n lt e =
    let k = leading_32 class a in
    let j = leading_32 other b in
    omega (arith, k.1, j.1)

pub identifiers_apart : (class : Class) (a : Bool) (n : ℕ) (other : Class) (b : Bool) (m : ℕ) → Decides (compared (identifier class a n) (identifier other b m)) (identifier class a n) (identifier other b m)
identifiers_apart class a n other b m =
    elim (cases_lt n 31) [
      | inl lt ↦ elim (cases_lt m 31) [
        | inl less ↦ rw (lt-ltb n 31 lt, lt-ltb m 31 less) (by_first (leading class a + n) (leading other b + m) [] [] (λ same. refl))
        | inr ge ↦ rw (lt-ltb n 31 lt, le-ltb m 31 ge) (by_first (leading class a + n) (leading other b + 31) [] (base_128 m) (λ same. absurd (not_same class other a b n lt same)))
      ]
      | inr more ↦ elim (cases_lt m 31) [
        | inl less ↦ rw (le-ltb n 31 more, lt-ltb m 31 less) (by_first (leading class a + 31) (leading other b + m) (base_128 n) [] (λ same. absurd (not_same other class b a m less (sym same))))
        | inr ge ↦ rw (le-ltb n 31 more, le-ltb m 31 ge) (by_first (leading class a + 31) (leading other b + 31) (base_128 n) (base_128 m) (λ same. base_128_apart n m))
      ]
    ]

pub lengths_apart : (n m : ℕ) → Decides (compared (length_octets n) (length_octets m)) (length_octets n) (length_octets m)
lengths_apart n m =
    elim (cases_lt n 128) [
      | inl lt ↦ elim (cases_lt m 128) [
        | inl less ↦ rw (lt-ltb n 128 lt, lt-ltb m 128 less) (by_first n m [] [] (λ same. refl))
        | inr ge ↦ rw (lt-ltb n 128 lt, le-ltb m 128 ge) (by_first n (128 + length (base_256 m)) [] (base_256 m) (λ same. absurd (omega arith)))
      ]
      | inr more ↦ elim (cases_lt m 128) [
        | inl less ↦ rw (le-ltb n 128 more, lt-ltb m 128 less) (by_first (128 + length (base_256 n)) m (base_256 n) [] (λ same. absurd (omega arith)))
        | inr ge ↦ rw (le-ltb n 128 more, le-ltb m 128 ge) (by_first (128 + length (base_256 n)) (128 + length (base_256 m)) (base_256 n) (base_256 m) (λ same. equal_lengths (base_256 n) (base_256 m) (omega arith)))
      ]
    ]

-- the number that octets of a length spell
read_length : List ℕ → ℕ
read_length [] = 0
read_length (x ∷ []) = x
read_length (x ∷ y ∷ os) = number_256 0 (y ∷ os)

some_octets : (os : List ℕ) (x n : ℕ) → 0 < n → number_256 0 os ≡ n → read_length (x ∷ os) ≡ n
unfolding read_length
some_octets [] x n lt e = absurd (omega arith)
some_octets (y ∷ os) x n lt e = e

length_read : (n : ℕ) → read_length (length_octets n) ≡ n
unfolding read_length
length_read n =
    elim (cases_lt n 128) [
      | inl lt ↦ rw (lt-ltb n 128 lt) refl
      | inr ge ↦ rw (le-ltb n 128 ge) (some_octets (base_256 n) (128 + length (base_256 n)) n (omega arith) (base_256_number n))
    ]

pub lengths_same : (n m : ℕ) → length_octets n ≡ length_octets m → n ≡ m
lengths_same n m e = sym (length_read n) ∙ ap read_length e ∙ length_read m

-- ---- lengths that stand still

pub identifier_len : (class : Class) (a b : Bool) (n : ℕ) → length (identifier class a n) ≡ length (identifier class b n)
identifier_len class a b n = elim (cases_lt n 31) [ inl lt ↦ rw (lt-ltb n 31 lt) refl | inr ge ↦ rw (le-ltb n 31 ge) refl ]

pub definite_len : (constructed : Bool) (tag : tags.Tag) (xs : List ℕ) (count : ℕ) → count ≡ saturated (length xs) → saturated (length (identifier tag.class false tag.number) + (length (length_octets count) + count)) ≡ saturated (length (definite constructed tag xs))
definite_len constructed tag xs count e =
    let front = length-append (identifier tag.class constructed tag.number) (length_octets (length xs) ++ xs) in
    let back = length-append (length_octets (length xs)) xs in
    let same = identifier_len tag.class false constructed tag.number in
    elim (cases_lt (length xs) (2 ^ 64)) [
      | inl lt ↦ let is : count ≡ length xs = omega (arith, e) in rw is (omega (arith, front, back, same))
      | inr ge ↦ let is : count ≡ 2 ^ 64 - 1 = omega (arith, e) in omega (arith, front, back, is)
    ]

-- ---- numbers one behind the other

some_128 : (n : ℕ) → 0 < length (base_128 n)
some_128 n = by_digits (base_128 n) (base_128_is n).are
  where
    by_digits : (l : List ℕ) → AreDigits l → 0 < length l
    by_digits [] h = absurd h
    by_digits (x ∷ l) h = omega arith

pub nothing_less : (xs ys : List ℕ) → 0 < length xs → compared [] (xs ++ ys) ≡ Less
nothing_less [] ys lt = absurd (omega arith)
nothing_less (x ∷ xs) ys lt = refl

pub nothing_greater : (xs ys : List ℕ) → 0 < length xs → compared (xs ++ ys) [] ≡ Greater
nothing_greater [] ys lt = absurd (omega arith)
nothing_greater (x ∷ xs) ys lt = refl

pub numbers_end : (ns ms : List ℕ) (i : ℕ) → i ≡ min (length ns) (length ms) → nat_cmp (length ns) (length ms) ≡ compared (flat_map base_128 (drop i ns)) (flat_map base_128 (drop i ms))
numbers_end [] [] i e = let none : i ≡ 0 = omega arith in rw none refl
numbers_end [] (m ∷ ms) i e = let none : i ≡ 0 = omega arith in rw none (cmp_less 0 (suc (length ms)) (omega arith) ∙ sym (nothing_less (base_128 m) (flat_map base_128 ms) (some_128 m)))
numbers_end (n ∷ ns) [] i e = let none : i ≡ 0 = omega arith in rw none (cmp_greater (suc (length ns)) 0 (omega arith) ∙ sym (nothing_greater (base_128 n) (flat_map base_128 ns) (some_128 n)))
numbers_end (n ∷ ns) (m ∷ ms) zero e = absurd (omega arith)
numbers_end (n ∷ ns) (m ∷ ms) (suc i) e = sym (cmp_up (length ns) (length ms)) ∙ numbers_end ns ms i (omega arith)

each_before : (ns : List ℕ) (i : ℕ) (n : ℕ) → i < length ns → get_or ns i 0 ≡ n → flat_map base_128 (drop i ns) ≡ base_128 n ++ flat_map base_128 (drop (suc i) ns)
each_before [] i n lt e = absurd (omega arith)
each_before (m ∷ ns) zero n lt e = rw (← e) refl
each_before (m ∷ ns) (suc i) n lt e = each_before ns i n (omega arith) e

pub numbers_before : (ns ms : List ℕ) (i k n m : ℕ) (o : Ordering) → k ≡ suc i → i < length ns → i < length ms → get_or ns i 0 ≡ n → get_or ms i 0 ≡ m → o ≡ compared (flat_map base_128 (drop k ns)) (flat_map base_128 (drop k ms))
    → ordering_then (compared (base_128 n) (base_128 m)) o ≡ compared (flat_map base_128 (drop i ns)) (flat_map base_128 (drop i ms))
numbers_before ns ms i k n m o up lt more e d h =
    pieces (compared (base_128 n) (base_128 m)) o (base_128 n) (base_128 m) (flat_map base_128 (drop k ns)) (flat_map base_128 (drop k ms)) (base_128_apart n m) h
    ∙ rw up (λ j. compared (sym (each_before ns i n lt e) j) (sym (each_before ms i m more d) j))

-- all behind a place
pub tail_is : {A : Type 0} (xs : List A) (i : ℕ) → take (length xs - i) (drop i xs) ≡ drop i xs
tail_is xs i = rw (← length-drop i xs) (take-length (drop i xs))

-- the first two arcs are one number
pub arcs_told : (a b : List ℕ) (o p q : Ordering) → 2 ≤ length a → 2 ≤ length b → o ≡ compared (base_128 (40 * get_or a 0 0 + get_or a 1 0)) (base_128 (40 * get_or b 0 0 + get_or b 1 0)) → p ≡ compared (flat_map base_128 (take (length a - 2) (drop 2 a))) (flat_map base_128 (take (length b - 2) (drop 2 b)))
    → q ≡ ordering_then o p → q ≡ compared (flat_map base_128 (subidentifiers a)) (flat_map base_128 (subidentifiers b))
arcs_told [] b o p q l m e f g = absurd (omega arith)
arcs_told (r ∷ []) b o p q l m e f g = absurd (omega arith)
arcs_told (r ∷ s ∷ ns) [] o p q l m e f g = absurd (omega arith)
arcs_told (r ∷ s ∷ ns) (t ∷ []) o p q l m e f g = absurd (omega arith)
arcs_told (r ∷ s ∷ ns) (t ∷ u ∷ ms) o p q l m e f g =
    g ∙ (λ i. ordering_then (e i) ((f ∙ (λ j. compared (flat_map base_128 (tail_is (r ∷ s ∷ ns) 2 j)) (flat_map base_128 (tail_is (t ∷ u ∷ ms) 2 j)))) i))
    ∙ pieces (compared (base_128 (40 * r + s)) (base_128 (40 * t + u))) (compared (flat_map base_128 ns) (flat_map base_128 ms)) (base_128 (40 * r + s)) (base_128 (40 * t + u)) (flat_map base_128 ns) (flat_map base_128 ms) (base_128_apart (40 * r + s) (40 * t + u)) refl

-- ---- as the code has it

-- what was put at the front of a room
pub room_front : (text new rest : List ℕ) (start len : ℕ) → start + length text ≡ len → len ≡ length text → drop start new ≡ text ++ rest → take len new ≡ text
room_front text new rest start len e f g =
    let none : start ≡ 0 = omega arith in
    let whole : new ≡ text ++ rest = subst (λ (n : ℕ). drop n new ≡ text ++ rest) none g in
    (λ i. take (f i) (whole i)) ∙ take-append_seam text rest

pub not_equal : (o : Ordering) (r : Bool) → r ≡ is_eq o → r ≡ false → o ≢ Equal
not_equal o r e f g = false≢true (sym f ∙ e ∙ ap is_eq g)

then_equal : (o : Ordering) → ordering_then o Equal ≡ o
then_equal Less = refl
then_equal Equal = refl
then_equal Greater = refl

-- one octet
pub octet_apart : (told : Compared) (x y : ℕ) → told.len ≡ 1 → told.other ≡ 1 → told.order ≡ nat_cmp x y → IsApart told (x ∷ []) (y ∷ [])
octet_apart told x y l o e = record {
  len = l;
  other = o;
  order = λ p q. subst (λ (k : Ordering). Decides k (x ∷ []) (y ∷ [])) (then_equal (nat_cmp x y) ∙ sym e) (by_first x y [] [] (λ same. refl));
}

pub apart_compared : (told : Compared) (xs ys : List ℕ) → IsApart told xs ys → IsCompared told xs ys
apart_compared told xs ys h = record { len = h.len; other = h.other; order = λ a b. so_compared told.order xs ys (h.order a b) }

-- octets of one length, and those that differ at a place
pub same_apart : (told : Compared) (xs ys : List ℕ) → IsCompared told xs ys → length xs ≡ length ys → IsApart told xs ys
same_apart told xs ys h e = record { len = h.len; other = h.other; order = λ p q. subst (λ (o : Ordering). Decides o xs ys) (sym (h.order p q)) (equal_lengths xs ys e) }

pub other_apart : (told : Compared) (xs ys : List ℕ) (i a b : ℕ) → IsCompared told xs ys → i < length xs → i < length ys → get_or xs i 0 ≡ a → get_or ys i 0 ≡ b → a ≢ b → IsApart told xs ys
other_apart told xs ys i a b h lt more e d ne = record { len = h.len; other = h.other; order = λ p q. subst (λ (o : Ordering). Decides o xs ys) (sym (h.order p q)) (differ xs ys i a b lt more e d ne) }

-- a piece of both, and what stands behind it
pub then_compared : (piece behind told : Compared) (xs ys zs ws : List ℕ) → told.len ≡ saturated (piece.len + behind.len) → told.other ≡ saturated (piece.other + behind.other) → told.order ≡ ordering_then piece.order behind.order
    → IsApart piece xs ys → IsCompared behind zs ws → IsCompared told (xs ++ zs) (ys ++ ws)
then_compared piece behind told xs ys zs ws l o is h k =
    let front = length-append xs zs in
    let back = length-append ys ws in
    record {
      len = omega (arith, l, h.len, k.len, front);
      other = omega (arith, o, h.other, k.other, back);
      order = λ a b. is ∙ pieces piece.order behind.order xs ys zs ws (h.order (omega (arith, front)) (omega (arith, back))) (k.order (omega (arith, front)) (omega (arith, back)));
    }

-- contents behind their lengths
pub same_behind : (o : Ordering) (xs ys : List ℕ) → length xs ≡ length ys → o ≡ compared xs ys → Decides o (length_octets (length xs) ++ xs) (length_octets (length ys) ++ ys)
same_behind o xs ys e is =
    subst (λ (p : Ordering). Decides p (length_octets (length xs) ++ xs) (length_octets (length ys) ++ ys)) (sym is)
    (subst (λ (n : ℕ). Decides (compared xs ys) (length_octets (length xs) ++ xs) (length_octets n ++ ys)) e
    (behind (compared xs ys) (length_octets (length xs)) xs ys (equal_lengths xs ys e)))

pub other_behind : (o : Ordering) (n m : ℕ) (xs ys : List ℕ) → n ≢ m → o ≡ compared (length_octets n) (length_octets m) → Decides o (length_octets n ++ xs) (length_octets m ++ ys)
other_behind o n m xs ys ne is =
    let apart : Decides o (length_octets n) (length_octets m) = subst (λ (p : Ordering). Decides p (length_octets n) (length_octets m)) (sym is) (lengths_apart n m) in
    extended o (length_octets n) (length_octets m) xs ys (λ same. ne (lengths_same n m (subst (λ (p : Ordering). Decides p (length_octets n) (length_octets m)) same apart))) apart

-- identifier, length and contents
pub whole_apart : (told : Compared) (constructed : Bool) (tag : tags.Tag) (xs ys : List ℕ) → told.len ≡ saturated (length (definite constructed tag xs)) → told.other ≡ saturated (length (definite constructed tag ys))
    → (length xs < 2 ^ 64 → length ys < 2 ^ 64 → Decides told.order (length_octets (length xs) ++ xs) (length_octets (length ys) ++ ys))
    → IsApart told (definite constructed tag xs) (definite constructed tag ys)
whole_apart told constructed tag xs ys l o h =
    let a = length-append (identifier tag.class constructed tag.number) (length_octets (length xs) ++ xs) in
    let b = length-append (length_octets (length xs)) xs in
    let c = length-append (identifier tag.class constructed tag.number) (length_octets (length ys) ++ ys) in
    let d = length-append (length_octets (length ys)) ys in
    record {
      len = l;
      other = o;
      order = λ p q. behind told.order (identifier tag.class constructed tag.number) (length_octets (length xs) ++ xs) (length_octets (length ys) ++ ys) (h (omega (arith, a, b)) (omega (arith, c, d)));
    }

-- of octets of which one are none, the lengths tell
pub alone : (told : Compared) (xs ys : List ℕ) → told.len ≡ saturated (length xs) → told.other ≡ saturated (length ys) → told.order ≡ nat_cmp told.len told.other → (xs ≡ []) ⊎ (ys ≡ []) → IsCompared told xs ys
alone told xs ys l o is none = record {
  len = l;
  other = o;
  order = λ a b.
      let len : told.len ≡ length xs = omega (arith, l) in
      let other : told.other ≡ length ys = omega (arith, o) in
      is ∙ (λ i. nat_cmp (len i) (other i)) ∙ by_lengths xs ys none;
}
  where
    by_lengths : (xs ys : List ℕ) → (xs ≡ []) ⊎ (ys ≡ []) → nat_cmp (length xs) (length ys) ≡ compared xs ys
    by_lengths [] [] none = refl
    by_lengths [] (y ∷ ys) none = cmp_less 0 (suc (length ys)) (omega arith)
    by_lengths (x ∷ xs) [] none = cmp_greater (suc (length xs)) 0 (omega arith)
    by_lengths (x ∷ xs) (y ∷ ys) (inl e) = absurd cc
    by_lengths (x ∷ xs) (y ∷ ys) (inr e) = absurd cc

-- octets that begin with other identifiers
pub heads_decide : (o : Ordering) (class : Class) (a : Bool) (n : ℕ) (other : Class) (b : Bool) (m : ℕ) (x y : List ℕ) → o ≡ compared (identifier class a n) (identifier other b m) → o ≢ Equal → Decides o (identifier class a n ++ x) (identifier other b m ++ y)
heads_decide o class a n other b m x y is ne =
    extended o (identifier class a n) (identifier other b m) x y ne (subst (λ (p : Ordering). Decides p (identifier class a n) (identifier other b m)) (sym is) (identifiers_apart class a n other b m))

-- less is so by both
pub less_is : (xs ys : List ℕ) → is_less xs ys ≡ is_lt (compared xs ys)
less_is [] [] = refl
less_is [] (y ∷ ys) = refl
less_is (x ∷ xs) [] = refl
less_is (x ∷ xs) (y ∷ ys) =
    elim (cases_lt x y) [
      | inl lt ↦ rw (lt-ltb x y lt) refl
      | inr ge ↦ elim (cases_lt y x) [
        | inl lt ↦ rw (cmp_greater x y lt, le-ltb x y ge, ne_eqb x y (λ e. omega arith)) refl
        | inr le ↦ let same : x ≡ y = omega arith in rw (cmp_same x y same, le-ltb x y ge, eq-eqb x y same) (less_is xs ys)
      ]
    ]

-- ---- what is told of short octets

pub not_told : (told : Compared) (xs ys : List ℕ) → IsApart told xs ys → (4294967295 < told.len) ⊎ (4294967295 < told.other) → None ≡ told_less xs ys
not_told told xs ys h (inl lt) = by_test (is_short (length ys)) (is_short (length xs)) (lt-leb (length xs) 4294967295 (omega (arith, h.len)))
  where
    by_test : (b c : Bool) → c ≡ false → None ≡ (if b && c then Some (is_less xs ys) else None)
    by_test true c e = rw e refl
    by_test false c e = refl
not_told told xs ys h (inr lt) = by_test (is_short (length ys)) (is_short (length xs)) (lt-leb (length ys) 4294967295 (omega (arith, h.other)))
  where
    by_test : (b c : Bool) → b ≡ false → None ≡ (if b && c then Some (is_less xs ys) else None)
    by_test b c e = rw e refl

pub told_so : (told : Compared) (xs ys : List ℕ) (b : Bool) → IsApart told xs ys → told.len ≤ 4294967295 → told.other ≤ 4294967295 → b ≡ is_lt told.order → Some b ≡ told_less xs ys
told_so told xs ys b h le more e =
    let len : length xs ≤ 4294967295 = omega (arith, h.len) in
    let other : length ys ≤ 4294967295 = omega (arith, h.other) in
    let order = so_compared told.order xs ys (h.order (omega arith) (omega arith)) in
    let same : b ≡ is_less xs ys = e ∙ ap is_lt order ∙ sym (less_is xs ys) in
    rw (le-leb (length ys) 4294967295 other, le-leb (length xs) 4294967295 len) (ap (λ (x : Bool). Some x) same)

pub less_so : (told : Compared) (xs ys : List ℕ) (b : Bool) → IsApart told xs ys → told.len < 2 ^ 64 - 1 → told.other < 2 ^ 64 - 1 → b ≡ is_lt told.order → b ≡ is_less xs ys
less_so told xs ys b h lt more e =
    let order = so_compared told.order xs ys (h.order (omega (arith, h.len)) (omega (arith, h.other))) in
    e ∙ ap is_lt order ∙ sym (less_is xs ys)
