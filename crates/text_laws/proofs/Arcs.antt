-- Object identifiers that are read back.
use Rattle.std.proofs.Common.{◌≡◌, ◌==◌, ℕ, zero, suc, ◌+◌, ◌*◌, ◌^◌, ◌<◌, ◌≤◌, true, false, List, [], ◌∷◌, ◌++◌, length, refl, ap, sym, ◌∙◌, arith, append_assoc, append-nil, decimal}
use Rattle.std.specs.List.{list_all, flat_map}
use Rattle.std.proofs.lemmas.Bool.Decides.{nat_tests}
use Rattle.asn1_types.specs.Fits.{has_32_bits}
use Rattle.asn1_types.specs.Value as tree
use Rattle.value_text.specs.Numbers.{is_digit, number_of}
use Rattle.value_text.specs.Values.{after_space}
use Rattle.value_reading.specs.Words.{word, behind_word}
use Rattle.value_reading.specs.Forms.{oid_before, then_arc, arcs_at}
use Rattle.text_laws.specs.Laws.{may_follow}
use Rattle.text_laws.proofs.Tests.{both_true}
use Rattle.text_laws.proofs.Words.{word_is, behind_is}
use Rattle.text_laws.proofs.Numbers.{writes, number_back, digits_plain}

pub small_arc : (n : ℕ) → has_32_bits n ≡ true → n < 2 ^ 32
small_arc n h = grind (arith, nat_tests)

not_space : (c : ℕ) → is_digit c ≡ true → (c == 32) ≡ false
not_space c h = grind (arith, nat_tests)

not_brace : (c : ℕ) → is_digit c ≡ true → (c == 125) ≡ false
not_brace c h = grind (arith, nat_tests)

first_digit : (c : ℕ) (cs ds : List ℕ) → ds ≡ c ∷ cs → list_all is_digit ds ≡ true → is_digit c ≡ true
first_digit c cs ds e h = (both_true (is_digit c) (list_all is_digit cs) (rw e at h)).0

-- one arc before what may follow it
pub one_arc : (left : ℕ) (done : List ℕ) (n : ℕ) (rest : List ℕ) → n < 2 ^ 32 → may_follow rest ≡ true → arcs_at (suc left) done (decimal n ++ rest) ≡ arcs_at left (done ++ n ∷ []) rest
one_arc left done n rest small h =
    let wide : n < 2 ^ 64 = omega arith in
    let w = writes n wide in
    let d = first_digit w.first w.more (decimal n) w.some w.digits in
    let plain = digits_plain (decimal n) w.digits in
    let text : decimal n ++ rest ≡ w.first ∷ (w.more ++ rest) = ap (λ x. x ++ rest) w.some in
    let goes : arcs_at (suc left) done (w.first ∷ (w.more ++ rest)) ≡ then_arc (λ done. arcs_at left done (behind_word (w.first ∷ (w.more ++ rest)))) done (number_of (word (w.first ∷ (w.more ++ rest)))) =
    rw (not_space w.first d, not_brace w.first d) refl in
    let wo : word (w.first ∷ (w.more ++ rest)) ≡ decimal n = ap word (sym text) ∙ word_is (decimal n) rest plain h in
    let be : behind_word (w.first ∷ (w.more ++ rest)) ≡ rest = ap behind_word (sym text) ∙ behind_is (decimal n) rest plain h in
    ap (arcs_at (suc left) done) text ∙ goes ∙ ap (λ r. then_arc (λ done. arcs_at left done r) done (number_of (word (w.first ∷ (w.more ++ rest))))) be
    ∙ ap (λ x. then_arc (λ done. arcs_at left done rest) done (number_of x)) wo ∙ ap (then_arc (λ done. arcs_at left done rest) done) (number_back n small)

pub follows : (more rest : List ℕ) → may_follow (flat_map after_space more ++ 125 ∷ rest) ≡ true
follows [] rest = refl
follows (n ∷ more) rest = refl

-- arcs with a space before each, up to the brace; each takes two turns
pub more_arcs : (left : ℕ) (done more rest : List ℕ) → list_all has_32_bits more ≡ true → 2 * length more + 1 ≤ left → arcs_at left done (flat_map after_space more ++ 125 ∷ rest) ≡ oid_before (done ++ more) rest
more_arcs zero done more rest h few = absurd (omega arith)
more_arcs (suc left) done [] rest h few = ap (λ x. oid_before x rest) (sym (append-nil done))
more_arcs (suc zero) done (n ∷ more) rest h few = absurd (omega arith)
more_arcs (suc (suc left)) done (n ∷ more) rest h few =
    let p = both_true (has_32_bits n) (list_all has_32_bits more) h in
    let enough : 2 * length more + 1 ≤ left = omega arith in
    ap (arcs_at (suc left) done) (append_assoc (decimal n) (flat_map after_space more) (125 ∷ rest))
    ∙ one_arc left done n (flat_map after_space more ++ 125 ∷ rest) (small_arc n p.0) (follows more rest)
    ∙ more_arcs left (done ++ n ∷ []) more rest p.1 enough ∙ ap (λ x. oid_before x rest) (append_assoc done (n ∷ []) more)
