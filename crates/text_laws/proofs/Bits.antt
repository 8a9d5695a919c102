-- Bits that are read back.
use Rattle.std.proofs.Common.{◌≡◌, ◌==◌, ℕ, zero, suc, ◌+◌, ◌-◌, ◌*◌, ◌/◌, ◌%◌, ◌^◌, ◌<◌, Bool, true, false, not, List, [], ◌∷◌, ◌++◌, length, take, Option, None, Some, refl, ap, sym, ◌∙◌, arith, if◌then◌else◌, nat_lt, append_assoc, append-nil}
use Rattle.std.specs.Prelude.{slice_index}
use Rattle.std.specs.List.{list_all}
use Rattle.std.proofs.lemmas.Bool.Decides.{nat_tests}
use Rattle.asn1_types.specs.Fits.{is_octet, are_bits}
use Rattle.value_text.specs.Values.{octet_bits, bits_of}
use Rattle.value_reading.specs.Forms.{octet_of_bits, bit_octets}
use Rattle.text_laws.proofs.Tests.{both_true, all-append, all_below, each_below}

abbrev pub same_octet : Option ℕ → ℕ → Bool
same_octet None o = false
same_octet (Some m) o = m == o

is_same : (r : Option ℕ) (o : ℕ) → same_octet r o ≡ true → r ≡ Some o
is_same None o e = absurd (let no : ⊥ = cc in no)
is_same (Some m) o e = let same : m ≡ o = grind (arith, nat_tests) in ap (λ n. Some n) same

-- an octet whose last bits are zero is read back from the others
abbrev pub is_back : ℕ → ℕ → Bool
is_back unused o = if o % 2 ^ unused == 0 then same_octet (octet_of_bits (take (8 - unused) (octet_bits o))) o else true

all_back : (unused : ℕ) → unused < 8 → all_below 256 (is_back unused) ≡ true
all_back zero h = refl
all_back (suc zero) h = refl
all_back (suc (suc zero)) h = refl
all_back (suc (suc (suc zero))) h = refl
all_back (suc (suc (suc (suc zero)))) h = refl
all_back (suc (suc (suc (suc (suc zero))))) h = refl
all_back (suc (suc (suc (suc (suc (suc zero)))))) h = refl
all_back (suc (suc (suc (suc (suc (suc (suc zero))))))) h = refl
all_back (suc (suc (suc (suc (suc (suc (suc (suc n)))))))) h = absurd (omega arith)

octet_back : (unused o : ℕ) → unused < 8 → o < 256 → (o % 2 ^ unused == 0) ≡ true → octet_of_bits (take (8 - unused) (octet_bits o)) ≡ Some o
octet_back unused o h small zeros =
    let t : is_back unused o ≡ true = each_below 256 (is_back unused) (all_back unused h) o small in
    is_same (octet_of_bits (take (8 - unused) (octet_bits o))) o (rw zeros at t)

whole_back : (o : ℕ) → o < 256 → octet_of_bits (octet_bits o) ≡ Some o
whole_back o h =
    let few : zero < 8 = omega arith in
    let one : o % 1 ≡ 0 = omega arith in
    let zeros : (o % 1 == 0) ≡ true = rw one refl in
    octet_back zero o few h zeros

below_octet : (o : ℕ) → is_octet o ≡ true → o < 256
below_octet o h = grind (arith, nat_tests)

-- the unused bits of the last octet are zero
abbrev pub last_fits : List ℕ → ℕ → Bool
last_fits [] unused = unused == 0
last_fits (o ∷ []) unused = o % 2 ^ unused == 0
last_fits (o ∷ p ∷ more) unused = last_fits (p ∷ more) unused

-- the bits of the last octet, of which some are unused
last_bits : (done : List ℕ) (unused o : ℕ) → unused < 8 → octet_of_bits (take (8 - unused) (octet_bits o)) ≡ Some o → bit_octets done (take (8 - unused) (octet_bits o)) ≡ Some (done ++ o ∷ [])
last_bits done zero o h e = rw e refl
last_bits done (suc zero) o h e = rw e refl
last_bits done (suc (suc zero)) o h e = rw e refl
last_bits done (suc (suc (suc zero))) o h e = rw e refl
last_bits done (suc (suc (suc (suc zero)))) o h e = rw e refl
last_bits done (suc (suc (suc (suc (suc zero))))) o h e = rw e refl
last_bits done (suc (suc (suc (suc (suc (suc zero)))))) o h e = rw e refl
last_bits done (suc (suc (suc (suc (suc (suc (suc zero))))))) o h e = rw e refl
last_bits done (suc (suc (suc (suc (suc (suc (suc (suc n)))))))) o h e = absurd (omega arith)

pub bits_back : (done os : List ℕ) (unused : ℕ) → unused < 8 → list_all is_octet os ≡ true → last_fits os unused ≡ true → bit_octets done (bits_of os unused) ≡ Some (done ++ os)
bits_back done [] unused h all fits = ap (λ n. Some n) (sym (append-nil done))
bits_back done (o ∷ []) unused h all fits =
    let p = both_true (is_octet o) true all in
    last_bits done unused o h (octet_back unused o h (below_octet o p.0) fits)
bits_back done (o ∷ p ∷ more) unused h all fits =
    let a = both_true (is_octet o) (list_all is_octet (p ∷ more)) all in
    rw (whole_back o (below_octet o a.0)) (bits_back (done ++ o ∷ []) (p ∷ more) unused h a.1 fits ∙ ap (λ n. Some n) (append_assoc done (o ∷ []) (p ∷ more)))

-- ---- how many bits there are

last_count : (unused o : ℕ) → unused < 8 → length (take (8 - unused) (octet_bits o)) ≡ 8 - unused
last_count zero o h = refl
last_count (suc zero) o h = refl
last_count (suc (suc zero)) o h = refl
last_count (suc (suc (suc zero))) o h = refl
last_count (suc (suc (suc (suc zero)))) o h = refl
last_count (suc (suc (suc (suc (suc zero))))) o h = refl
last_count (suc (suc (suc (suc (suc (suc zero)))))) o h = refl
last_count (suc (suc (suc (suc (suc (suc (suc zero))))))) o h = refl
last_count (suc (suc (suc (suc (suc (suc (suc (suc n)))))))) o h = absurd (omega arith)

count : (o : ℕ) (more : List ℕ) (unused : ℕ) → unused < 8 → length (bits_of (o ∷ more) unused) ≡ 8 * length more + (8 - unused)
count o [] unused h = let same : 8 * 0 + (8 - unused) ≡ 8 - unused = omega arith in last_count unused o h ∙ sym same
count o (p ∷ more) unused h =
    let rest = count p more unused h in
    let same : 8 + (8 * length more + (8 - unused)) ≡ 8 * suc (length more) + (8 - unused) = omega arith in
    let longer : length (bits_of (o ∷ p ∷ more) unused) ≡ 8 + length (bits_of (p ∷ more) unused) = omega arith in
    longer ∙ ap (λ n. 8 + n) rest ∙ same

unused_of : (m unused : ℕ) → unused < 8 → (8 - (8 * m + (8 - unused)) % 8) % 8 ≡ unused
unused_of m zero h = omega arith
unused_of m (suc zero) h = omega arith
unused_of m (suc (suc zero)) h = omega arith
unused_of m (suc (suc (suc zero))) h = omega arith
unused_of m (suc (suc (suc (suc zero)))) h = omega arith
unused_of m (suc (suc (suc (suc (suc zero))))) h = omega arith
unused_of m (suc (suc (suc (suc (suc (suc zero)))))) h = omega arith
unused_of m (suc (suc (suc (suc (suc (suc (suc zero))))))) h = omega arith
unused_of m (suc (suc (suc (suc (suc (suc (suc (suc n)))))))) h = absurd (omega arith)

pub unused_back : (os : List ℕ) (unused : ℕ) → unused < 8 → last_fits os unused ≡ true → (8 - length (bits_of os unused) % 8) % 8 ≡ unused
unused_back [] unused h fits = let none : unused ≡ 0 = grind (arith, nat_tests) in sym none
unused_back (o ∷ more) unused h fits = ap (λ n. (8 - n % 8) % 8) (count o more unused h) ∙ unused_of (length more) unused h

-- ---- what fits

last_at : (o : ℕ) (more : List ℕ) (unused : ℕ) → (slice_index (o ∷ more) (length more) % 2 ^ unused == 0) ≡ true → last_fits (o ∷ more) unused ≡ true
last_at o [] unused h = h
last_at o (p ∷ more) unused h = last_at p more unused h

suc_not : (n : ℕ) → (suc n == 0) ≡ false
suc_not n = grind (arith, nat_tests)

pub last_so : (os : List ℕ) (unused : ℕ) → are_bits os unused ≡ true → (unused < 8) × (last_fits os unused ≡ true)
last_so [] unused h =
    let p = both_true (nat_lt unused 8) (unused == 0) h in
    (grind (arith, nat_tests, p.0), p.1)
last_so (o ∷ more) unused h =
    let p = both_true (nat_lt unused 8) _ h in
    let place : suc (length more) - 1 ≡ length more = omega arith in
    (grind (arith, nat_tests, p.0), last_at o more unused (rw (suc_not (length more), place) at p.1))

-- ---- no bit is a quote

bit_unquoted : (n : ℕ) → not ((48 + n % 2) == 39) ≡ true
bit_unquoted n = grind (arith, nat_tests)

octet_unquoted : (o : ℕ) → list_all (λ c. not (c == 39)) (octet_bits o) ≡ true
octet_unquoted o =
    rw (bit_unquoted (o / 128), bit_unquoted (o / 64), bit_unquoted (o / 32), bit_unquoted (o / 16), bit_unquoted (o / 8), bit_unquoted (o / 4), bit_unquoted (o / 2), bit_unquoted o) refl

taken_so : (test : ℕ → Bool) (n : ℕ) (xs : List ℕ) → list_all test xs ≡ true → list_all test (take n xs) ≡ true
taken_so test zero xs h = refl
taken_so test (suc n) [] h = refl
taken_so test (suc n) (x ∷ xs) h = let p = both_true (test x) (list_all test xs) h in rw p.0 (taken_so test n xs p.1)

pub bits_unmarked : (os : List ℕ) (unused : ℕ) → list_all (λ c. not (c == 39)) (bits_of os unused) ≡ true
bits_unmarked [] unused = refl
bits_unmarked (o ∷ []) unused = taken_so (λ c. not (c == 39)) (8 - unused) (octet_bits o) (octet_unquoted o)
bits_unmarked (o ∷ p ∷ more) unused = all-append (λ c. not (c == 39)) (octet_bits o) (bits_of (p ∷ more) unused) (octet_unquoted o) (bits_unmarked (p ∷ more) unused)
