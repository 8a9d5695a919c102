-- A text has no more assignments than tokens, of which there are at most 65,536.
use Rattle.std.proofs.Common.{◌≡◌, ℕ, zero, suc, ◌<◌, ◌≤◌, ◌^◌, List, [], ◌∷◌, ◌++◌, length, ap, arith, inl, inr}
use Rattle.std.specs.Prelude.{nat_lt, codes}
use Rattle.std.proofs.lemmas.List.{length-append, length-map}
use Rattle.osi_base.specs.Limits.{most_tokens}
use Rattle.notation_tokens.specs.Lexeme.{Lexeme, lexeme, lexemes}
use Rattle.notation_tokens.specs.Forms.{is_blank}
use Rattle.notation_tokens.specs.Lexing.{starts, word_length, number_length, sign_length, cut_after, cut, piece_of, lexed_of}
use Rattle.notation_tokens.proofs.Spans.{chosen_piece}
use Rattle.notation_tokens.specs.declared.token_cutting.Lexed.{Lexed}
use Rattle.notation_tokens.specs.declared.token.Place.{Place}
use Rattle.operation_notation.specs.Grammar.{Many}
use Rattle.operation_notation.specs.GrammarTypes.{Extent, narrow}
use Rattle.operation_notation.specs.GrammarModules.{Assign, Module}
use Rattle.operation_notation.specs.Modules.{ReadsAsModule}
use Rattle.operation_notation.specs.declared.module.Assignment.{Assignment}
use Rattle.operation_notation.specs.declared.module.ModuleText.{ModuleText}

-- ---- tokens

one_more : (n m : ℕ) → n ≤ m → suc n ≤ suc m
one_more n m le = omega arith

module _ (more : ℕ → ℕ → Place → List ℕ → Lexed) (few : (m f : ℕ) (p : Place) (r : List ℕ) → length (more m f p r).tokens ≤ m) (from : ℕ) (place : Place) (c : ℕ) (cs : List ℕ) where
  none_left : length (cut_after more 0 from place (c ∷ cs) (piece_of (c ∷ cs))).tokens ≤ 0
  unfolding piece_of
  none_left =
      chosen_piece (λ p. length (cut_after more 0 from place (c ∷ cs) p).tokens ≤ 0) (is_blank c) _ _ (λ e. few 0 _ _ _)
      (chosen_piece (λ p. length (cut_after more 0 from place (c ∷ cs) p).tokens ≤ 0) (starts (codes "--") (c ∷ cs)) _ _ (λ e. few 0 _ _ _)
      (chosen_piece (λ p. length (cut_after more 0 from place (c ∷ cs) p).tokens ≤ 0) (nat_lt 0 (word_length (c ∷ cs))) _ _ (λ e. omega arith)
      (chosen_piece (λ p. length (cut_after more 0 from place (c ∷ cs) p).tokens ≤ 0) (nat_lt 0 (number_length (c ∷ cs))) _ _ (λ e. omega arith)
      (chosen_piece (λ p. length (cut_after more 0 from place (c ∷ cs) p).tokens ≤ 0) (nat_lt 0 (sign_length (c ∷ cs))) _ _ (λ e. omega arith) (omega arith)))))

  some_left : (most : ℕ) → length (cut_after more (suc most) from place (c ∷ cs) (piece_of (c ∷ cs))).tokens ≤ suc most
  unfolding piece_of
  some_left most =
      chosen_piece (λ p. length (cut_after more (suc most) from place (c ∷ cs) p).tokens ≤ suc most) (is_blank c) _ _ (λ e. few (suc most) _ _ _)
      (chosen_piece (λ p. length (cut_after more (suc most) from place (c ∷ cs) p).tokens ≤ suc most) (starts (codes "--") (c ∷ cs)) _ _ (λ e. few (suc most) _ _ _)
      (chosen_piece (λ p. length (cut_after more (suc most) from place (c ∷ cs) p).tokens ≤ suc most) (nat_lt 0 (word_length (c ∷ cs))) _ _ (λ e. one_more _ _ (few most _ _ _))
      (chosen_piece (λ p. length (cut_after more (suc most) from place (c ∷ cs) p).tokens ≤ suc most) (nat_lt 0 (number_length (c ∷ cs))) _ _ (λ e. one_more _ _ (few most _ _ _))
      (chosen_piece (λ p. length (cut_after more (suc most) from place (c ∷ cs) p).tokens ≤ suc most) (nat_lt 0 (sign_length (c ∷ cs))) _ _ (λ e. one_more _ _ (few most _ _ _)) (omega arith)))))

cut_few : (turns most from : ℕ) (place : Place) (rest : List ℕ) → length (cut turns most from place rest).tokens ≤ most
unfolding cut
cut_few turns most from place [] = omega arith
cut_few zero most from place (c ∷ cs) = omega arith
cut_few (suc turns) zero from place (c ∷ cs) = none_left (cut turns) (λ m f p r. cut_few turns m f p r) from place c cs
cut_few (suc turns) (suc most) from place (c ∷ cs) = some_left (cut turns) (λ m f p r. cut_few turns m f p r) from place c cs most

tokens_few : (text : List ℕ) → length (lexed_of text).tokens ≤ most_tokens
unfolding lexed_of
tokens_few text = cut_few (length text) most_tokens 0 _ text

-- ---- assignments

behind_few : {A : Type 0} (ts front back : List A) → ts ≡ front ++ back → length back ≤ length ts
behind_few ts front back e = omega (arith, ap length e, length-append front back)

one_first : {A : Type 0} (t : A) (ts front back : List A) → front ≡ t ∷ [] → ts ≡ front ++ back → 1 ≤ length ts
one_first t ts front back one e = omega (arith, ap length e, ap length one, length-append front back)

assign_pos : (ext : Extent) (ts : List Lexeme) (a : Assignment) → Assign ext ts a → 1 ≤ length ts
assign_pos ext ts a (inl h) = one_first h.first.token ts h.front h.back h.first.alone h.whole
assign_pos ext ts a (inr h) = one_first h.first.token ts h.front h.back h.first.alone h.whole

many_few : {A : Type 0} (r : List Lexeme → A → Type 0) → ((ts : List Lexeme) (a : A) → r ts a → 1 ≤ length ts) → (ts : List Lexeme) (xs : List A) → Many r ts xs → length xs ≤ length ts
many_few r pos ts [] h = omega arith
many_few r pos ts (x ∷ xs) h =
    let one : 1 ≤ length h.front = pos h.front x h.first in
    let more : length xs ≤ length h.back = many_few r pos h.back xs h.second in
    omega (arith, ap length h.whole, length-append h.front h.back)

module_few : (ext : Extent) (ts : List Lexeme) (m : ModuleText) → Module ext ts m → length m.assignments ≤ length ts
module_few ext ts m h =
    let begin = h.second in
    let imports = begin.second in
    let many = imports.second in
    let end = many.second in
    let a : length begin.back ≤ length h.back = behind_few h.back begin.front begin.back begin.whole in
    let b : length imports.back ≤ length begin.back = behind_few begin.back imports.front imports.back imports.whole in
    let c : length h.back ≤ length ts = behind_few ts h.front h.back h.whole in
    let d : length many.value ≤ length many.front = many_few (Assign ext) (assign_pos ext) many.front many.value many.first in
    let same : length many.value ≡ length m.assignments = ap (λ (x : ModuleText). length x.assignments) end.second.same_value in
    omega (arith, ap length many.whole, length-append many.front many.back)

pub assignments_few : (text : List ℕ) (m : ModuleText) → ReadsAsModule text m → length m.assignments < 2 ^ 32
assignments_few text m h =
    let tokens : length (lexed_of text).tokens ≤ most_tokens = tokens_few text in
    let spelled : length m.assignments ≤ length (lexemes text (lexed_of text).tokens) = module_few narrow (lexemes text (lexed_of text).tokens) m h.spelled in
    let count : length (lexemes text (lexed_of text).tokens) ≡ length (lexed_of text).tokens = length-map (lexed_of text).tokens (lexeme text) in
    omega arith
