-- Words before what follows them.
use Rattle.std.proofs.Common.{◌≡◌, ◌==◌, ℕ, suc, Bool, true, false, not, List, [], ◌∷◌, ◌++◌, length, Some, refl, ap, ◌∙◌, arith, if◌then◌else◌}
use Rattle.std.specs.List.{list_all}
use Rattle.std.proofs.Math.Seq.{take-append_seam, drop-append_seam}
use Rattle.std.proofs.lemmas.Bool.Decides.{nat_tests}
use Rattle.asn1_types.specs.Value.{Value}
use Rattle.value_reading.specs.Found.{found_before}
use Rattle.value_reading.specs.Words.{len_until, is_sign, word, behind_word}
use Rattle.value_reading.specs.Forms.{word_form, form_at}
use Rattle.text_laws.specs.Laws.{may_follow}
use Rattle.text_laws.proofs.Tests.{both_true, not_true}

-- none of these stops, and what follows does
pub until_end : (stops : ℕ → Bool) (w rest : List ℕ) → list_all (λ c. not (stops c)) w ≡ true → len_until stops rest ≡ 0 → len_until stops (w ++ rest) ≡ length w
until_end stops [] rest h e = e
until_end stops (c ∷ cs) rest h e =
    let p = both_true (not (stops c)) (list_all (λ c. not (stops c)) cs) h in
    rw (not_true (stops c) p.0) (ap (λ n. suc n) (until_end stops cs rest p.1 e))

-- what may follow a value stops a word
pub stops_word : (rest : List ℕ) → may_follow rest ≡ true → len_until is_sign rest ≡ 0
stops_word [] h = refl
stops_word (c ∷ cs) h = let e : is_sign c ≡ true = grind (arith, nat_tests) in rw e refl

abbrev pub is_plain : List ℕ → Bool
is_plain w = list_all (λ c. not (is_sign c)) w

pub word_is : (w rest : List ℕ) → is_plain w ≡ true → may_follow rest ≡ true → word (w ++ rest) ≡ w
word_is w rest h e = rw (until_end is_sign w rest h (stops_word rest e)) (take-append_seam w rest)

pub behind_is : (w rest : List ℕ) → is_plain w ≡ true → may_follow rest ≡ true → behind_word (w ++ rest) ≡ rest
behind_is w rest h e = rw (until_end is_sign w rest h (stops_word rest e)) (drop-append_seam w rest)

no_quote : (c : ℕ) → is_sign c ≡ false → (c == 39) ≡ false
no_quote c h = grind (arith, nat_tests)

no_double_quote : (c : ℕ) → is_sign c ≡ false → (c == 34) ≡ false
no_double_quote c h = grind (arith, nat_tests)

no_brace : (c : ℕ) → is_sign c ≡ false → (c == 123) ≡ false
no_brace c h = grind (arith, nat_tests)

-- none of three tests holds
third_branch : {A : Type 0} (a b c : Bool) (x y z w : A) → a ≡ false → b ≡ false → c ≡ false → (if a then x else if b then y else if c then z else w) ≡ w
third_branch a b c x y z w e f g = rw (e, f, g) refl

-- a form that is a word
pub word_read : (c : ℕ) (cs rest : List ℕ) (v : Value) → is_plain (c ∷ cs) ≡ true → may_follow rest ≡ true → word_form (c ∷ cs) ≡ Some v
    → form_at ((c ∷ cs) ++ rest) ≡ Some (record { value = v; rest = rest })
word_read c cs rest v h e form =
    let s : is_sign c ≡ false = not_true (is_sign c) (both_true (not (is_sign c)) (is_plain cs) h).0 in
    let w : word (c ∷ (cs ++ rest)) ≡ c ∷ cs = word_is (c ∷ cs) rest h e in
    let b : behind_word (c ∷ (cs ++ rest)) ≡ rest = behind_is (c ∷ cs) rest h e in
    third_branch (c == 39) (c == 34) (c == 123) _ _ _ (found_before (behind_word (c ∷ (cs ++ rest))) (word_form (word (c ∷ (cs ++ rest))))) (no_quote c s) (no_double_quote c s) (no_brace c s)
    ∙ (ap (λ r. found_before r (word_form (word (c ∷ (cs ++ rest))))) b ∙ ap (λ x. found_before rest (word_form x)) w ∙ ap (found_before rest) form)
