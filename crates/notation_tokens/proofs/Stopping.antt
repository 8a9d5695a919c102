-- Where cutting stops, tokens lie before, and there stands what can't go on.
use Rattle.std.proofs.Common.{codes, ◌≡◌, ℕ, zero, suc, ◌+◌, ◌-◌, ◌<◌, ◌≤◌, Bool, true, false, List, [], ◌∷◌, length, take, drop, Option, Some, None, Result, Ok, Err, refl, sym, ap, subst, ◌∙◌, arith, inl, inr}
use Rattle.std.specs.Prelude.{IfErr, nat_lt, if◌then◌else◌, slice_range, IsTrue}
use Rattle.std.proofs.lemmas.Bool.{ltb-true, ltb-false}
use Rattle.std.proofs.lemmas.List.{length-drop}
use Rattle.osi_base.specs.Limits.{most_module_octets}
use Rattle.notation_tokens.specs.declared.token.Place.{Place}
use Rattle.notation_tokens.specs.declared.token_cutting.Lexed.{Lexed}
use Rattle.notation_tokens.specs.declared.token_cutting.Piece.{Piece}
use Rattle.notation_tokens.specs.declared.token_cutting.Piece.TheVariants.{Passed, Cut, Bad}
use Rattle.notation_tokens.specs.declared.token.Token.{Token}
use Rattle.notation_tokens.specs.declared.token.TokenKind.{TokenKind}
use Rattle.notation_tokens.specs.declared.token.TokenKind.TheVariants.{Word, Number, Sign}
use Rattle.notation_tokens.specs.Forms.{is_blank, has_form}
use Rattle.notation_tokens.specs.Lexing.{behind_octets, first_place, word_length, number_length, sign_length, starts, piece_of, cut, cut_after, lexed_of}
use Rattle.notation_tokens.specs.Texts.{Answers, tokens_of, unless_stopped, too_long, fault_at}
use Rattle.notation_tokens.specs.declared.faults.NotationFault.{NotationFault}
use Rattle.notation_tokens.specs.declared.faults.NotationFault.TheVariants as faults
use Rattle.notation_tokens.specs.declared.faults.NotationKind.{NotationKind}
use Rattle.notation_tokens.specs.declared.faults.NotationKind.TheVariants.{BadCharacter, TextTooLong, TooManyTokens}
use Rattle.notation_tokens.specs.Tokens.{Gap, outside, behind_all}
use Rattle.notation_tokens.specs.Stops.{AreTokensTo, BeginsToken, BeginsNothing, StopsFor, Stops, IsTextTooLong, IsCuttingFault}
use Rattle.notation_tokens.proofs.Gaps.{Fit, Passes, begins_outside, Passed_since, nothing_passed, more_passed}
use Rattle.notation_tokens.proofs.Longest.{Longest, piece_longest, Stands, moves, slice_is, word_longest, number_longest, sign_longest, chosen_by}

-- ---- what begins nothing

empty_has_no_form : (kind : TokenKind) → has_form kind [] ≡ true → ⊥
empty_has_no_form Word e = absurd cc
empty_has_no_form Number e = absurd cc
empty_has_no_form Sign e = absurd cc

none_longer : (kind : TokenKind) (rest : List ℕ) (m : ℕ) → nat_lt 0 m ≡ false → ((n : ℕ) → n ≤ length rest → has_form kind (take n rest) ≡ true → n ≤ m) → (n : ℕ) → n ≤ length rest → has_form kind (take n rest) ≡ true → ⊥
none_longer kind rest m none_here long zero le e = empty_has_no_form kind e
none_longer kind rest m none_here long (suc n) le e = let up = long (suc n) le e in let down = ltb-false _ _ none_here in absurd (omega (arith, up, down))

-- a piece has an octet at least, and one that is bad begins nothing
abbrev IfBad : List ℕ → Piece → Type 0
IfBad rest (Passed n) = 0 < n
IfBad rest (Cut kind n) = 0 < n
IfBad rest Bad = BeginsNothing rest

no_token_here : (rest : List ℕ) → nat_lt 0 (word_length rest) ≡ false → nat_lt 0 (number_length rest) ≡ false → nat_lt 0 (sign_length rest) ≡ false → BeginsToken rest → ⊥
no_token_here rest w n s b = go b.0 b.1 b.2 b.3
  where
    go : (kind : TokenKind) (k : ℕ) → k ≤ length rest → has_form kind (take k rest) ≡ true → ⊥
    go Word k le e = none_longer Word rest (word_length rest) w (word_longest rest) k le e
    go Number k le e = none_longer Number rest (number_length rest) n (number_longest rest) k le e
    go Sign k le e = none_longer Sign rest (sign_length rest) s (sign_longest rest) k le e

piece_if_bad : (c : ℕ) (cs : List ℕ) → IfBad (c ∷ cs) (piece_of (c ∷ cs))
unfolding piece_of
piece_if_bad c cs =
    let rest = c ∷ cs in
    chosen_by (IfBad rest) (is_blank c) _ _ (λ e. omega arith) (λ dark.
    chosen_by (IfBad rest) (starts (codes "--") rest) _ _ (λ e. omega arith) (λ bare.
    chosen_by (IfBad rest) (nat_lt 0 (word_length rest)) _ _ (λ e. ltb-true _ _ e) (λ w.
    chosen_by (IfBad rest) (nat_lt 0 (number_length rest)) _ _ (λ e. ltb-true _ _ e) (λ n.
    chosen_by (IfBad rest) (nat_lt 0 (sign_length rest)) _ _ (λ e. ltb-true _ _ e) (λ s. record { no_blank = dark; no_comment = bare; no_token = no_token_here rest w n s })))))

outside_of : (rest : List ℕ) → BeginsNothing rest → 0 < length rest → (g : Gap) → Fit g rest → g ≡ outside
outside_of [] b some g f = absurd (omega arith)
outside_of (c ∷ cs) b some g f = begins_outside c cs b.no_blank g f

-- ---- where cutting stops

record Stopped (source : List ℕ) (least left : ℕ) (l : Lexed) (kind : NotationKind) : Type 0 where
  at : ℕ
  within : at < length source
  before : AreTokensTo source least l.tokens at
  place : l.place ≡ behind_octets first_place (take at source)
  what : StopsFor kind left (length l.tokens) (drop at source)

one_more : (kind : NotationKind) (left count : ℕ) (rest : List ℕ) → StopsFor kind left count rest → StopsFor kind (suc left) (suc count) rest
one_more kind left count rest (inl p) = inl (p.0, (let le = p.1 in omega (arith, le)), p.2)
one_more kind left count rest (inr p) = inr (p.0, ap suc p.1, p.2)

kind_is : (k j : NotationKind) → Some k ≡ Some j → j ≡ k
kind_is k j e = cc

stopped_after : (source : List ℕ) (more : ℕ → ℕ → Place → List ℕ → Lexed) (kind : NotationKind) (turns : ℕ)
    → ((left from : ℕ) (p : Place) (rest : List ℕ) (least : ℕ) → length rest ≤ turns → Stands source from p rest → least ≤ from → Passed_since source least from → (more left from p rest).stop ≡ Some kind → Stopped source least left (more left from p rest) kind)
    → (left from : ℕ) (p : Place) (rest : List ℕ) (least : ℕ) (piece : Piece) → length rest ≤ suc turns → Stands source from p rest → 0 < length rest → least ≤ from → Passed_since source least from → Longest rest piece → IfBad rest piece
    → (cut_after more left from p rest piece).stop ≡ Some kind → Stopped source least left (cut_after more left from p rest piece) kind
stopped_after source more kind turns ih left from p rest least (Passed n) enough s some le g f b e =
    ih left (from + n) (behind_octets p (take n rest)) (drop n rest) least (omega (arith, b, length-drop n rest)) (moves source from p rest n s) (omega arith) (more_passed source least from n le (subst (λ (z : List ℕ). Passes z n) s.left f) g) e
stopped_after source more kind turns ih zero from p rest least (Cut k n) enough s some le g f b e =
    let length_is : length rest ≡ length source - from = ap length s.left ∙ length-drop from source in
    let in_front : Fit (behind_all outside (slice_range source least from)) rest = subst (λ (z : List ℕ). Fit (behind_all outside (slice_range source least from)) z) (sym s.left) g in
    record {
      at = from;
      within = omega (arith, length_is);
      before = (le, f.4 (behind_all outside (slice_range source least from)) in_front);
      place = s.here;
      what = inr (kind_is TooManyTokens kind e, refl, subst BeginsToken s.left (k, n, f.1, f.2));
    }
stopped_after source more kind turns ih (suc left) from p rest least (Cut k n) enough s some le g f b e =
    let length_is : length rest ≡ length source - from = ap length s.left ∙ length-drop from source in
    let in_front : Fit (behind_all outside (slice_range source least from)) rest = subst (λ (z : List ℕ). Fit (behind_all outside (slice_range source least from)) z) (sym s.left) g in
    let x = ih left (from + n) (behind_octets p (take n rest)) (drop n rest) (from + n) (omega (arith, b, length-drop n rest)) (moves source from p rest n s) (omega arith) (nothing_passed source (from + n)) e in
    record {
      at = x.at;
      within = x.within;
      before = (
        record {
          some = omega (arith, f.0);
          within = omega (arith, f.1, length_is);
          form = subst (λ (z : List ℕ). IsTrue (has_form k z)) (sym (slice_is source from p rest n s)) f.2;
          longest = λ m fits h. let le_n : m ≤ n = f.3 m (omega (arith, length_is)) (subst (λ (z : List ℕ). IsTrue (has_form k z)) (slice_is source from p rest m s) h) in omega arith;
          place = s.here;
        },
        le,
        f.4 (behind_all outside (slice_range source least from)) in_front,
        x.before,
      );
      place = x.place;
      what = one_more kind left _ _ x.what;
    }
stopped_after source more kind turns ih left from p rest least Bad enough s some le g f b e =
    let length_is : length rest ≡ length source - from = ap length s.left ∙ length-drop from source in
    let in_front : Fit (behind_all outside (slice_range source least from)) rest = subst (λ (z : List ℕ). Fit (behind_all outside (slice_range source least from)) z) (sym s.left) g in
    record {
      at = from;
      within = omega (arith, length_is);
      before = (le, outside_of rest b some (behind_all outside (slice_range source least from)) in_front);
      place = s.here;
      what = inl (kind_is BadCharacter kind e, omega arith, subst BeginsNothing s.left b);
    }

cut_stopped : (source : List ℕ) (kind : NotationKind) (turns left from : ℕ) (p : Place) (rest : List ℕ) (least : ℕ) → length rest ≤ turns → Stands source from p rest → least ≤ from → Passed_since source least from
    → (cut turns left from p rest).stop ≡ Some kind → Stopped source least left (cut turns left from p rest) kind
unfolding cut
cut_stopped source kind turns left from p [] least enough s le g e = absurd cc
cut_stopped source kind zero left from p (c ∷ cs) least enough s le g e = absurd (omega arith)
cut_stopped source kind (suc turns) left from p (c ∷ cs) least enough s le g e =
    stopped_after source (cut turns) kind turns (cut_stopped source kind turns) left from p (c ∷ cs) least (piece_of (c ∷ cs)) enough s (omega arith) le g (piece_longest c cs) (piece_if_bad c cs) e

abbrev refused : NotationFault → Result (List Token) NotationFault
refused e = Err e

same_place : (p : Place) (line column : ℕ) → p.line ≡ line → p.column ≡ column → p ≡ record { line = line; column = column }
same_place p line column l c = λ i. record { line = l i; column = c i }

module _ (text : List ℕ) (line column : ℕ) (kind : NotationKind) where
  stops_of : length text ≤ most_module_octets → (j : NotationKind) → (lexed_of text).stop ≡ Some j → refused (fault_at (lexed_of text).place j) ≡ refused (faults.At line column kind) → Stops text line column kind
  unfolding lexed_of
  stops_of fits j is e =
      let x = cut_stopped text j (length text) 65536 0 first_place text 0 (omega arith) (record { left = refl; here = refl }) (omega arith) (nothing_passed text 0) is in
      let kind_same : j ≡ kind = cc in
      let line_same : (lexed_of text).place.line ≡ line = cc in
      let column_same : (lexed_of text).place.column ≡ column = cc in
      record {
        fits = fits;
        tokens = (lexed_of text).tokens;
        at = x.at;
        within = x.within;
        before = x.before;
        place = sym (same_place (lexed_of text).place line column line_same column_same) ∙ x.place;
        what = subst (λ (z : NotationKind). StopsFor z 65536 (length (lexed_of text).tokens) (drop x.at text)) kind_same x.what;
      }

  stop_is : length text ≤ most_module_octets → (o : Option NotationKind) → (lexed_of text).stop ≡ o → unless_stopped o (lexed_of text).place (lexed_of text).tokens ≡ refused (faults.At line column kind) → Stops text line column kind
  stop_is fits None is e = absurd cc
  stop_is fits (Some j) is e = stops_of fits j is e

  long_is : most_module_octets < length text → refused (faults.At 1 1 TextTooLong) ≡ refused (faults.At line column kind) → IsTextTooLong text line column kind
  long_is long e = record { long = long; at_line = cc; at_column = cc; is = cc }

  pub cutting_fault : tokens_of text ≡ refused (faults.At line column kind) → IsCuttingFault text (faults.At line column kind)
  unfolding tokens_of
  cutting_fault e = go (nat_lt most_module_octets (length text)) refl e
    where
      go : (b : Bool) → nat_lt most_module_octets (length text) ≡ b → (if b then too_long else unless_stopped (lexed_of text).stop (lexed_of text).place (lexed_of text).tokens) ≡ refused (faults.At line column kind) → IsCuttingFault text (faults.At line column kind)
      go true is h = inl (long_is (ltb-true _ _ is) h)
      go false is h = inr (stop_is (ltb-false _ _ is) (lexed_of text).stop refl h)

pub lex_fault : (text : List ℕ) (r : Result (List Token) NotationFault) → Answers r (tokens_of text) → IfErr r (λ e. IsCuttingFault text e)
lex_fault text (Ok ts) h = tt
lex_fault text (Err faults.NoMemory) h = tt
lex_fault text (Err (faults.At line column kind)) h = cutting_fault text line column kind h
