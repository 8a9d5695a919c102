-- The digits of a number, written and read.
use Rattle.std.proofs.Common.{◌≡◌, ℕ, ◌+◌, ◌-◌, ◌*◌, ◌/◌, ◌%◌, ◌<◌, ◌≤◌, ◌==◌, Bool, true, false, cond, ltb, List, [], ◌∷◌, ◌++◌, get_or, map, Option, Some, None, refl, sym, ap, subst, ◌∙◌, append_assoc, inl, inr, arith}
use Rattle.std.specs.Int.Digits.{digits_of, number_from_digits_after, AllBelowBase}
use Rattle.std.proofs.lemmas.Bool.{le-ltb, cases_Bool}
use Rattle.std.proofs.lemmas.List.{map_push}
use Rattle.std.proofs.lemmas.Int.Digits.{digits_of_step, all_below_base_digits_of, first_digits_of, number_after_ge, number_digits_of}
use Rattle.osi_base.specs.Limits.{last_serial}
use Rattle.spdu_codec.specs.Values.{more_digits, number_of, mark_of}
use Rattle.spdu_codec.specs.Written.{numeral, mark_numeral}

pub numeral_step : (n : ℕ) → 0 < n → numeral n ≡ numeral (n / 10) ++ (n % 10 + 48) ∷ []
numeral_step n some = ap (map (λ d. d + 48)) (digits_of_step 10 n (omega arith) some) ∙ map_push (λ d. d + 48) (digits_of 10 (n / 10)) (n % 10)

eq_is : (a b : ℕ) → (a == b) ≡ true → a ≡ b
eq_is a b e = grind arith

differ : (a b : ℕ) → (a == b) ≡ false → a ≡ b → ⊥
differ a b e f = grind arith

other : (a b : ℕ) → (a ≡ b → ⊥) → (a == b) ≡ false
other a b ne = elim (cases_Bool (a == b)) [ inl e ↦ absurd (ne (eq_is a b e)) | inr e ↦ e ]

abbrev as_some : ℕ → Option ℕ
as_some n = Some n

abbrev none_of : Option ℕ
none_of = None

-- digits that follow a number are read on
digits_read : (a : ℕ) (ds : List ℕ) → AllBelowBase 10 ds → number_from_digits_after 10 a ds < 1000000 → more_digits a (map (λ d. d + 48) ds) ≡ Some (number_from_digits_after 10 a ds)
unfolding more_digits
digits_read a [] below lt = refl
digits_read a (d ∷ ds) below lt =
    let digit : d < 10 = below.0 in
    let ge = number_after_ge 10 (a * 10 + d) ds (omega arith) in
    let low : ltb (d + 48) 48 ≡ false = le-ltb _ _ (omega arith) in
    let high : ltb 57 (d + 48) ≡ false = le-ltb _ _ (omega arith) in
    let room : ltb 999999 (10 * a + (d + 48 - 48)) ≡ false = le-ltb _ _ (omega (arith, ge, lt)) in
    let same : 10 * a + (d + 48 - 48) ≡ a * 10 + d = omega arith in
    rw (low, high, room, same) (digits_read (a * 10 + d) ds below.1 lt)

first_read : (ds : List ℕ) → 0 < get_or ds 0 0 → more_digits 0 (map (λ d. d + 48) ds) ≡ number_of (map (λ d. d + 48) ds)
first_read [] first = absurd (omega arith)
first_read (d ∷ ds) first = (let e : (d + 48 == 48) ≡ false = other (d + 48) 48 (λ f. omega (arith, f, first)) in rw e refl)

pub number_again : (n : ℕ) → 0 < n → n ≤ last_serial → number_of (numeral n) ≡ Some n
number_again n some le =
    let is = number_digits_of 10 n (omega arith) in
    sym (first_read (digits_of 10 n) (first_digits_of 10 n (omega arith) some)) ∙ digits_read 0 (digits_of 10 n) (all_below_base_digits_of 10 n (omega arith)) (omega (arith, is, le)) ∙ ap as_some is

mark_is_number : (v : List ℕ) (n : ℕ) → 0 < n → number_of v ≡ Some n → mark_of v ≡ Some n
mark_is_number [] n some e = absurd cc
mark_is_number (d ∷ []) n some e = go (d == 48) refl
  where
    go : (b : Bool) → (d == 48) ≡ b → cond b (Some 0) (cond (d == 48) None (more_digits 0 (d ∷ []))) ≡ Some n
    go true f = absurd (let g : cond (d == 48) None (more_digits 0 (d ∷ [])) ≡ Some n = e in let h : none_of ≡ Some n = ap (λ b. cond b None (more_digits 0 (d ∷ []))) (sym f) ∙ g in cc)
    go false f = e
mark_is_number (d ∷ x ∷ ds) n some e = e

pub mark_again : (n : ℕ) → n ≤ last_serial → mark_of (mark_numeral n) ≡ Some n
mark_again n le =
    elim (cases_Bool (n == 0)) [
      | inl e ↦ subst (λ (k : ℕ). mark_of (mark_numeral k) ≡ Some k) (sym (eq_is n 0 e)) refl
      | inr e ↦ (let some : 0 < n = (let ne : n ≡ 0 → ⊥ = (λ f. differ n 0 e f) in grind arith) in rw e (mark_is_number (numeral n) n some (number_again n some le)))
    ]

-- one digit more is written
pub digit_pushed : (out : List ℕ) (n : ℕ) → 0 < n → (out ++ numeral (n / 10)) ++ (48 + n % 10) ∷ [] ≡ out ++ numeral n
digit_pushed out n some =
    let same : 48 + n % 10 ≡ n % 10 + 48 = omega arith in
    append_assoc out (numeral (n / 10)) ((48 + n % 10) ∷ []) ∙ ap (λ d. out ++ (numeral (n / 10) ++ d ∷ [])) same ∙ ap (λ (l : List ℕ). out ++ l) (sym (numeral_step n some))
