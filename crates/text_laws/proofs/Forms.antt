-- Values that are read back by their form.
use Rattle.std.proofs.Common.{◌≡◌, ◌==◌, ℕ, suc, ◌+◌, ◌-◌, ◌*◌, ◌%◌, ◌^◌, ◌<◌, ◌≤◌, ℤ, pos, negsuc, Bool, true, false, List, [], ◌∷◌, ◌++◌, length, take, drop, Some, refl, ap, sym, ◌∙◌, arith, append_assoc, length-append, decimal, nat_lt}
use Rattle.std.specs.Prelude.{option_map}
use Rattle.std.specs.Fmt.{signed_decimal}
use Rattle.std.specs.List.{list_all, flat_map}
use Rattle.std.proofs.lemmas.Bool.Decides.{nat_tests}
use Rattle.osi_base.specs.Oid.{is_oid}
use Rattle.asn1_types.specs.Fits.{is_number, is_octet, are_bits, has_32_bits, bits_fit, object_id_fits}
use Rattle.asn1_types.specs.Value as tree
use Rattle.asn1_types.specs.Value.{Value}
use Rattle.value_text.specs.Numbers.{is_digit, integer_of}
use Rattle.value_text.specs.Values.{hex_octet, bits_of, after_space, value_text}
use Rattle.value_reading.specs.Found.{found_before}
use Rattle.value_reading.specs.Words.{len_to}
use Rattle.value_reading.specs.Forms.{quoted_form, oid_before, arcs_at, word_form, form_at}
use Rattle.text_laws.specs.Laws.{may_follow, has_own_form}
use Rattle.text_laws.proofs.Tests.{both_true}
use Rattle.text_laws.proofs.Words.{is_plain, word_read}
use Rattle.text_laws.proofs.Numbers.{writes, integer_back, signed_plain}
use Rattle.text_laws.proofs.Octets.{octets_back, hex_unmarked, quoted}
use Rattle.text_laws.proofs.Bits.{bits_back, unused_back, last_so, bits_unmarked}
use Rattle.text_laws.proofs.Characters.{characters_back}
use Rattle.text_laws.proofs.Arcs.{small_arc, more_arcs, one_arc, follows}

boolean_back : (b : Bool) (rest : List ℕ) → may_follow rest ≡ true → form_at (value_text (tree.boolean b) ++ rest) ≡ Some (record { value = tree.boolean b; rest = rest })
boolean_back true rest h = word_read 84 (82 ∷ 85 ∷ 69 ∷ []) rest (tree.boolean true) refl h refl
boolean_back false rest h = word_read 70 (65 ∷ 76 ∷ 83 ∷ 69 ∷ []) rest (tree.boolean false) refl h refl

null_back : (rest : List ℕ) → may_follow rest ≡ true → form_at (value_text tree.null ++ rest) ≡ Some (record { value = tree.null; rest = rest })
null_back rest h = word_read 78 (85 ∷ 76 ∷ 76 ∷ []) rest tree.null refl h refl

-- a number is no other word
number_form : (c : ℕ) (cs : List ℕ) (z : ℤ) → (c == 84) ≡ false → (c == 70) ≡ false → (c == 78) ≡ false → integer_of (c ∷ cs) ≡ Some z → word_form (c ∷ cs) ≡ Some (tree.integer z)
number_form c cs z t f n e = rw (t, f, n) (ap (option_map (λ z. tree.integer z)) e)

integer_read : (z : ℤ) (c : ℕ) (cs rest : List ℕ) → signed_decimal z ≡ c ∷ cs → (c == 84) ≡ false → (c == 70) ≡ false → (c == 78) ≡ false → is_number z ≡ true → may_follow rest ≡ true
    → form_at (signed_decimal z ++ rest) ≡ Some (record { value = tree.integer z; rest = rest })
integer_read z c cs rest same t f n h e =
    let plain : is_plain (c ∷ cs) ≡ true = ap is_plain (sym same) ∙ signed_plain z h in
    let back : integer_of (c ∷ cs) ≡ Some z = ap integer_of (sym same) ∙ integer_back z h in
    ap (λ x. form_at (x ++ rest)) same ∙ word_read c cs rest (tree.integer z) plain e (number_form c cs z t f n back)

digit_no_word : (c : ℕ) → is_digit c ≡ true → ((c == 84) ≡ false) × ((c == 70) ≡ false) × ((c == 78) ≡ false)
digit_no_word c h = (grind (arith, nat_tests), grind (arith, nat_tests), grind (arith, nat_tests))

first_digit : (c : ℕ) (cs ds : List ℕ) → ds ≡ c ∷ cs → list_all is_digit ds ≡ true → is_digit c ≡ true
first_digit c cs ds e h = (both_true (is_digit c) (list_all is_digit cs) (rw e at h)).0

below_number : (n : ℕ) → nat_lt n (2 ^ 63) ≡ true → n < 2 ^ 64
below_number n h = let small : n < 2 ^ 63 = grind (arith, nat_tests) in omega arith

number_back : (z : ℤ) (rest : List ℕ) → is_number z ≡ true → may_follow rest ≡ true → form_at (value_text (tree.integer z) ++ rest) ≡ Some (record { value = tree.integer z; rest = rest })
number_back (pos n) rest h e =
    let w = writes n (below_number n h) in
    let no = digit_no_word w.first (first_digit w.first w.more (decimal n) w.some w.digits) in
    integer_read (pos n) w.first w.more rest w.some no.0 no.1 no.2 h e
number_back (negsuc n) rest h e = integer_read (negsuc n) 45 (decimal (suc n)) rest refl refl refl refl h e

-- ---- quoted forms

octets_read : (os rest : List ℕ) → list_all is_octet os ≡ true → form_at (value_text (tree.octets os) ++ rest) ≡ Some (record { value = tree.octets os; rest = rest })
octets_read os rest h =
    let inside = flat_map hex_octet os in
    let text : (inside ++ 39 ∷ 72 ∷ []) ++ rest ≡ inside ++ 39 ∷ 72 ∷ rest = append_assoc inside (39 ∷ 72 ∷ []) rest in
    ap (λ x. quoted_form (take (len_to 39 x) x) (drop (len_to 39 x) x)) text ∙ quoted inside rest 72 (hex_unmarked os h)
    ∙ ap (λ x. found_before rest (option_map (λ octets. tree.octets octets) x)) (octets_back [] os h)

bits_read : (os : List ℕ) (unused : ℕ) (rest : List ℕ) → bits_fit (tree.bits os unused) ≡ true → form_at (value_text (tree.bits os unused) ++ rest) ≡ Some (record { value = tree.bits os unused; rest = rest })
bits_read os unused rest h =
    let p = both_true (list_all is_octet os) (are_bits os unused) h in
    let l = last_so os unused p.1 in
    let inside = bits_of os unused in
    let text : (inside ++ 39 ∷ 66 ∷ []) ++ rest ≡ inside ++ 39 ∷ 66 ∷ rest = append_assoc inside (39 ∷ 66 ∷ []) rest in
    ap (λ x. quoted_form (take (len_to 39 x) x) (drop (len_to 39 x) x)) text ∙ quoted inside rest 66 (bits_unmarked os unused)
    ∙ ap (λ x. found_before rest (option_map (λ octets. tree.bits octets ((8 - length inside % 8) % 8)) x)) (bits_back [] os unused l.0 p.0 l.1)
    ∙ ap (λ n. Some (record { value = tree.bits os n; rest = rest })) (unused_back os unused l.0 l.1)

-- ---- object identifiers

oid_so : (arcs rest : List ℕ) → is_oid arcs ≡ true → oid_before arcs rest ≡ Some (record { value = tree.object_id arcs; rest = rest })
oid_so arcs rest h = rw h refl

-- each arc has two octets at least with the space before it
long_enough : (more rest : List ℕ) → list_all has_32_bits more ≡ true → 2 * length more + 1 ≤ length (flat_map after_space more ++ 125 ∷ rest)
long_enough [] rest h = omega arith
long_enough (n ∷ more) rest h =
    let p = both_true (has_32_bits n) (list_all has_32_bits more) h in
    let small = small_arc n p.0 in
    let wide : n < 2 ^ 64 = omega arith in
    let w = writes n wide in
    let some : length (decimal n) ≡ suc (length w.more) = ap length w.some in
    let l : length ((decimal n ++ flat_map after_space more) ++ 125 ∷ rest) ≡ length (decimal n) + length (flat_map after_space more ++ 125 ∷ rest) =
    ap length (append_assoc (decimal n) (flat_map after_space more) (125 ∷ rest)) ∙ length-append (decimal n) (flat_map after_space more ++ 125 ∷ rest) in
    let more_long = long_enough more rest p.1 in
    omega (arith, some, l, more_long)

oid_read : (arcs rest : List ℕ) → object_id_fits (tree.object_id arcs) ≡ true → form_at (value_text (tree.object_id arcs) ++ rest) ≡ Some (record { value = tree.object_id arcs; rest = rest })
oid_read [] rest h = absurd (let no : ⊥ = cc in no)
oid_read (n ∷ more) rest h =
    let p = both_true (is_oid (n ∷ more)) (list_all has_32_bits (n ∷ more)) h in
    let q = both_true (has_32_bits n) (list_all has_32_bits more) p.1 in
    let small = small_arc n q.0 in
    let wide : n < 2 ^ 64 = omega arith in
    let w = writes n wide in
    let some : length (decimal n) ≡ suc (length w.more) = ap length w.some in
    let tail = flat_map after_space more ++ 125 ∷ rest in
    let text : ((decimal n ++ flat_map after_space more) ++ 125 ∷ []) ++ rest ≡ decimal n ++ tail =
    append_assoc (decimal n ++ flat_map after_space more) (125 ∷ []) rest ∙ append_assoc (decimal n) (flat_map after_space more) (125 ∷ rest) in
    let count : length (decimal n ++ tail) ≡ suc (length w.more + length tail) = length-append (decimal n) tail ∙ omega (arith, some) in
    let enough : 2 * length more + 1 ≤ length w.more + length tail = omega (arith, long_enough more rest q.1) in
    ap (λ x. arcs_at (length x) [] x) text ∙ ap (λ k. arcs_at k [] (decimal n ++ tail)) count
    ∙ one_arc (length w.more + length tail) [] n tail small (follows more rest)
    ∙ more_arcs (length w.more + length tail) (n ∷ []) more rest q.1 enough ∙ oid_so (n ∷ more) rest p.0

pub form_back : (v : Value) (rest : List ℕ) → has_own_form v ≡ true → may_follow rest ≡ true → form_at (value_text v ++ rest) ≡ Some (record { value = v; rest = rest })
form_back (tree.boolean b) rest h e = boolean_back b rest e
form_back (tree.integer z) rest h e = number_back z rest h e
form_back tree.null rest h e = null_back rest e
form_back (tree.octets os) rest h e = octets_read os rest h
form_back (tree.bits os unused) rest h e = bits_read os unused rest h
form_back (tree.object_id arcs) rest h e = oid_read arcs rest h
form_back (tree.text cs) rest h e = characters_back [] cs rest e
form_back (tree.parts vs) rest h e = absurd (let no : ⊥ = cc in no)
form_back (tree.list vs) rest h e = absurd (let no : ⊥ = cc in no)
form_back (tree.chosen which v) rest h e = absurd (let no : ⊥ = cc in no)
form_back (tree.any os) rest h e = absurd (let no : ⊥ = cc in no)
