-- Each token that is cut lies within the text and has the form of its kind.
use Rattle.std.proofs.Common.{◌≡◌, ℕ, zero, suc, ◌+◌, ◌-◌, ◌<◌, ◌≤◌, Bool, true, false, List, [], ◌∷◌, length, take, drop, refl, sym, ap, subst, ◌∙◌, arith, inl, inr}
use Rattle.std.specs.Prelude.{codes, ◌==◌, ◌&&◌, ◌||◌, nat_lt, nat_eq, if◌then◌else◌, slice_range, IsTrue, ◌⊎◌}
use Rattle.std.specs.List.{AllByRecursion, list_all, list_any}
use Rattle.std.specs.Char.{is_ascii_alphabetic, is_ascii_alphanumeric, is_ascii_digit}
use Rattle.std.specs.Str.{bytes_eq}
use Rattle.std.specs.Bool.{Decides}
use Rattle.std.proofs.lemmas.Slice.Eq.{bytes_eq-Decides}
use Rattle.std.proofs.lemmas.Bool.{eqb-true, ltb-true, or_cases, and_parts}
use Rattle.std.proofs.lemmas.Bool.Decides.{nat_tests}
use Rattle.std.proofs.lemmas.List.{length-drop, length-take, drop-drop}
use Rattle.notation_tokens.specs.declared.token.Place.{Place}
use Rattle.notation_tokens.specs.declared.token_cutting.Piece.{Piece}
use Rattle.notation_tokens.specs.declared.token_cutting.Piece.TheVariants.{Passed, Cut, Bad}
use Rattle.notation_tokens.specs.declared.token_cutting.Lexed.{Lexed}
use Rattle.notation_tokens.specs.declared.token.Token.{Token}
use Rattle.notation_tokens.specs.Forms.{is_blank, goes_on_well, is_word, are_digits, is_number, is_sign, has_form}
use Rattle.notation_tokens.specs.Lexeme.{IsSpan}
use Rattle.notation_tokens.specs.Lexing.{behind_octets, starts_alphanumeric, goes_on_length, word_length, digits_length, number_length, behind_hyphen, sign_length, single_sign_length, single_signs, starts, piece_of, cut, cut_after, lexed_of}

-- ---- words

not_hyphen : (c : ℕ) → is_ascii_alphanumeric c ≡ true → (c == 45) ≡ false
not_hyphen c e = grind (arith, nat_tests)

bare_true : (bare : Bool) → (bare ≡ true) ⊎ (false ≡ true) → bare ≡ true
bare_true bare (inl e) = e
bare_true bare (inr e) = absurd cc

goes_well_step : (bare : Bool) (c : ℕ) (cs : List ℕ)
    → ((b : Bool) → (b ≡ true) ⊎ (starts_alphanumeric cs ≡ true) → goes_on_well b (take (goes_on_length cs) cs) ≡ true)
    → (a h : Bool) → is_ascii_alphanumeric c ≡ a → c == 45 && starts_alphanumeric cs ≡ h → (bare ≡ true) ⊎ (a ≡ true)
    → goes_on_well bare (take (if a || h then suc (goes_on_length cs) else 0) (c ∷ cs)) ≡ true
goes_well_step bare c cs ih true h is other start = rw (not_hyphen c is, is, ih true (inl refl)) refl
goes_well_step bare c cs ih false true is other start =
    let p = and_parts (c == 45) (starts_alphanumeric cs) other in
    rw (p.0, bare_true bare start, ih false (inr p.1)) refl
goes_well_step bare c cs ih false false is other start = bare_true bare start

goes_well : (cs : List ℕ) (bare : Bool) → (bare ≡ true) ⊎ (starts_alphanumeric cs ≡ true) → goes_on_well bare (take (goes_on_length cs) cs) ≡ true
goes_well [] bare start = bare_true bare start
goes_well (c ∷ cs) bare start = goes_well_step bare c cs (goes_well cs) (is_ascii_alphanumeric c) (c == 45 && starts_alphanumeric cs) refl refl start

word_step : (c : ℕ) (cs : List ℕ) (b : Bool) → is_ascii_alphabetic c ≡ b → 0 < (if b then suc (goes_on_length cs) else 0) → is_word (take (if b then suc (goes_on_length cs) else 0) (c ∷ cs)) ≡ true
word_step c cs true e lt = rw (e, goes_well cs true (inl refl)) refl
word_step c cs false e lt = absurd (omega arith)

pub word_form : (rest : List ℕ) → 0 < word_length rest → is_word (take (word_length rest) rest) ≡ true
word_form [] lt = absurd (omega arith)
word_form (c ∷ cs) lt = word_step c cs (is_ascii_alphabetic c) refl lt

length_step : (c : ℕ) (cs : List ℕ) (n : ℕ) (b : Bool) → n ≤ length cs → (if b then suc n else 0) ≤ length (c ∷ cs)
length_step c cs n true le = omega arith
length_step c cs n false le = omega arith

goes_on_within : (cs : List ℕ) → goes_on_length cs ≤ length cs
goes_on_within [] = omega arith
goes_on_within (c ∷ cs) = length_step c cs (goes_on_length cs) (is_ascii_alphanumeric c || c == 45 && starts_alphanumeric cs) (goes_on_within cs)

pub word_within : (rest : List ℕ) → word_length rest ≤ length rest
word_within [] = omega arith
word_within (c ∷ cs) = length_step c cs (goes_on_length cs) (is_ascii_alphabetic c) (goes_on_within cs)

-- ---- numbers

digits_step : (c : ℕ) (cs : List ℕ) (b : Bool) → is_ascii_digit c ≡ b → list_all is_ascii_digit (take (digits_length cs) cs) ≡ true → list_all is_ascii_digit (take (if b then suc (digits_length cs) else 0) (c ∷ cs)) ≡ true
digits_step c cs true e h = rw (e, h) refl
digits_step c cs false e h = refl

digits_all : (cs : List ℕ) → list_all is_ascii_digit (take (digits_length cs) cs) ≡ true
digits_all [] = refl
digits_all (c ∷ cs) = digits_step c cs (is_ascii_digit c) refl (digits_all cs)

digits_within : (cs : List ℕ) → digits_length cs ≤ length cs
digits_within [] = omega arith
digits_within (c ∷ cs) = length_step c cs (digits_length cs) (is_ascii_digit c) (digits_within cs)

are_all : (n : ℕ) (cs : List ℕ) → 0 < n → n ≤ length cs → list_all is_ascii_digit (take n cs) ≡ true → are_digits (take n cs) ≡ true
are_all zero cs lt le h = absurd (omega arith)
are_all (suc n) [] lt le h = absurd (omega arith)
are_all (suc n) (c ∷ cs) lt le h = h

number_step : (c : ℕ) (cs : List ℕ) (b : Bool) → (c == 45) ≡ b → (m : ℕ) → digits_length cs ≡ m → (k : ℕ) → digits_length (c ∷ cs) ≡ k
    → 0 < (if b then behind_hyphen m else k) → is_number (take (if b then behind_hyphen m else k) (c ∷ cs)) ≡ true
number_step c cs true e zero m k n lt = absurd (omega arith)
number_step c cs true e (suc i) m k n lt =
    let le : suc i ≤ length cs = omega (arith, digits_within cs) in
    let all : list_all is_ascii_digit (take (suc i) cs) ≡ true = subst (λ (j : ℕ). list_all is_ascii_digit (take j cs) ≡ true) m (digits_all cs) in
    rw (e, are_all (suc i) cs (omega arith) le all) refl
number_step c cs false e m d zero n lt = absurd (omega arith)
number_step c cs false e m d (suc j) n lt =
    let all : list_all is_ascii_digit (take (suc j) (c ∷ cs)) ≡ true = subst (λ (i : ℕ). list_all is_ascii_digit (take i (c ∷ cs)) ≡ true) n (digits_all (c ∷ cs)) in
    rw (e) all

pub number_form : (rest : List ℕ) → 0 < number_length rest → is_number (take (number_length rest) rest) ≡ true
number_form [] lt = absurd (omega arith)
number_form (c ∷ cs) lt = number_step c cs (c == 45) refl (digits_length cs) refl (digits_length (c ∷ cs)) refl lt

number_within_step : (c : ℕ) (cs : List ℕ) (b : Bool) (m k : ℕ) → m ≤ length cs → k ≤ length (c ∷ cs) → (if b then behind_hyphen m else k) ≤ length (c ∷ cs)
number_within_step c cs true zero k p q = omega arith
number_within_step c cs true (suc m) k p q = omega arith
number_within_step c cs false m k p q = q

pub number_within : (rest : List ℕ) → number_length rest ≤ length rest
number_within [] = omega arith
number_within (c ∷ cs) = number_within_step c cs (c == 45) (digits_length cs) (digits_length (c ∷ cs)) (digits_within cs) (digits_within (c ∷ cs))

-- ---- signs

decided : {P : Type 0} (r : Bool) → Decides r P → r ≡ true → P
decided r h e = h.0 e

starts_is : (text rest : List ℕ) → starts text rest ≡ true → take (length text) rest ≡ text
starts_is text rest e = sym (decided (bytes_eq text (take (length text) rest)) (bytes_eq-Decides text (take (length text) rest)) e)

single_step : (c : ℕ) (ss : List ℕ) → AllByRecursion (λ s. is_sign (s ∷ []) ≡ true) ss → list_any (λ s. nat_eq s c) ss ≡ true → is_sign (c ∷ []) ≡ true
single_step c [] all e = absurd cc
single_step c (s ∷ ss) all e =
    elim (or_cases (nat_eq s c) (list_any (λ z. nat_eq z c) ss) e) [
      | inl h ↦ subst (λ (z : ℕ). is_sign (z ∷ []) ≡ true) (eqb-true s c h) all.0
      | inr h ↦ single_step c ss all.1 h
    ]

abbrev Signed : List ℕ → ℕ → Type 0
Signed rest n = 0 < n → (is_sign (take n rest) ≡ true) × (n ≤ length rest)

chosen : (P : ℕ → Type 0) (b : Bool) (n m : ℕ) → (b ≡ true → P n) → P m → P (if b then n else m)
chosen P true n m f g = f refl
chosen P false n m f g = g

starts_long : (text rest : List ℕ) → starts text rest ≡ true → length text ≤ length rest
starts_long text rest e = omega (arith, ap length (starts_is text rest e), length-take (length text) rest)

sign_case : (text rest : List ℕ) → is_sign text ≡ true → starts text rest ≡ true → Signed rest (length text)
sign_case text rest is e lt = (subst (λ (z : List ℕ). is_sign z ≡ true) (sym (starts_is text rest e)) is, starts_long text rest e)

single_form : (rest : List ℕ) → Signed rest (single_sign_length rest)
single_form [] = λ lt. absurd (omega arith)
single_form (c ∷ cs) = chosen (Signed (c ∷ cs)) (list_any (λ s. nat_eq s c) single_signs) 1 0 (λ e lt. (single_step c single_signs (refl, (refl, (refl, (refl, (refl, (refl, (refl, (refl, (refl, (refl, tt)))))))))) e, omega arith)) (λ lt. absurd (omega arith))

pub sign_form : (rest : List ℕ) → Signed rest (sign_length rest)
sign_form rest =
    chosen (Signed rest) (starts (codes "::=") rest) 3 _ (sign_case (codes "::=") rest refl)
    (chosen (Signed rest) (starts (codes "...") rest) 3 _ (sign_case (codes "...") rest refl)
    (chosen (Signed rest) (starts (codes "..") rest) 2 _ (sign_case (codes "..") rest refl)
    (chosen (Signed rest) (starts (codes "/*") rest) 2 _ (sign_case (codes "/*") rest refl) (single_form rest))))

-- ---- pieces

abbrev Formed : List ℕ → Piece → Type 0
Formed rest (Passed n) = Unit {0}
Formed rest (Cut kind n) = (IsTrue (has_form kind (take n rest))) × (n ≤ length rest)
Formed rest Bad = Unit {0}

pub chosen_piece : (P : Piece → Type 0) (b : Bool) (p q : Piece) → (b ≡ true → P p) → P q → P (if b then p else q)
chosen_piece P true p q f g = f refl
chosen_piece P false p q f g = g

pub piece_formed : (rest : List ℕ) → Formed rest (piece_of rest)
unfolding piece_of
piece_formed [] = tt
piece_formed (c ∷ cs) =
    let rest = c ∷ cs in
    chosen_piece (Formed rest) (is_blank c) _ _ (λ e. tt)
    (chosen_piece (Formed rest) (starts (codes "--") rest) _ _ (λ e. tt)
    (chosen_piece (Formed rest) (nat_lt 0 (word_length rest)) _ _ (λ e. (word_form rest (ltb-true _ _ e), word_within rest))
    (chosen_piece (Formed rest) (nat_lt 0 (number_length rest)) _ _ (λ e. (number_form rest (ltb-true _ _ e), number_within rest))
    (chosen_piece (Formed rest) (nat_lt 0 (sign_length rest)) _ _ (λ e. sign_form rest (ltb-true _ _ e)) tt))))

-- ---- all tokens of a text

abbrev AreSpans : List ℕ → List Token → Type 0
AreSpans source ts = AllByRecursion (IsSpan source (length source)) ts

spans_after : (source : List ℕ) (more : ℕ → ℕ → Place → List ℕ → Lexed) → ((left from : ℕ) (place : Place) (rest : List ℕ) → rest ≡ drop from source → AreSpans source (more left from place rest).tokens)
    → (left from : ℕ) (place : Place) (rest : List ℕ) (p : Piece) → rest ≡ drop from source → 0 < length rest → Formed rest p → AreSpans source (cut_after more left from place rest p).tokens
spans_after source more ih left from place rest (Passed n) e some f = ih left (from + n) (behind_octets place (take n rest)) (drop n rest) (ap (drop n) e ∙ drop-drop n from source)
spans_after source more ih zero from place rest (Cut kind n) e some f = tt
spans_after source more ih (suc left) from place rest (Cut kind n) e some f =
    let k : (from + n) - from ≡ n = omega arith in
    let text : slice_range source from (from + n) ≡ take n rest = ap (λ (i : ℕ). take i (drop from source)) k ∙ ap (take n) (sym e) in (
      record { ordered = omega arith; within = omega (arith, f.1, ap length e, length-drop from source); form = subst (λ (z : List ℕ). IsTrue (has_form kind z)) (sym text) f.0 },
      ih left (from + n) (behind_octets place (take n rest)) (drop n rest) (ap (drop n) e ∙ drop-drop n from source),
    )
spans_after source more ih left from place rest Bad e some f = tt

cut_spans : (source : List ℕ) (turns left from : ℕ) (place : Place) (rest : List ℕ) → rest ≡ drop from source → AreSpans source (cut turns left from place rest).tokens
unfolding cut
cut_spans source turns left from place [] e = tt
cut_spans source zero left from place (c ∷ cs) e = tt
cut_spans source (suc turns) left from place (c ∷ cs) e = spans_after source (cut turns) (cut_spans source turns) left from place (c ∷ cs) (piece_of (c ∷ cs)) e (omega arith) (piece_formed (c ∷ cs))

pub lexed_spans : (text : List ℕ) → AreSpans text (lexed_of text).tokens
unfolding lexed_of
lexed_spans text = cut_spans text (length text) _ 0 _ text refl
