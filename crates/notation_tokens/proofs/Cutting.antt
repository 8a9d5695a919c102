-- Cutting a text, piece by piece.
use Rattle.std.proofs.Common.{◌≡◌, ℕ, zero, suc, ◌+◌, ◌<◌, ◌≤◌, Bool, true, false, List, [], ◌∷◌, ◌++◌, length, take, drop, Option, Some, None, refl, sym, ap, ◌∙◌, append_assoc, arith}
use Rattle.std.specs.Prelude.{◌==◌}
use Rattle.std.proofs.lemmas.Bool.{eqb-true}
use Rattle.std.proofs.lemmas.List.{append-nil, length-drop, length_push}
use Rattle.osi_base.specs.Limits.{most_tokens}
use Rattle.notation_tokens.specs.declared.token.Place.{Place}
use Rattle.notation_tokens.specs.declared.faults.NotationKind.{NotationKind}
use Rattle.notation_tokens.specs.declared.faults.NotationKind.TheVariants.{BadCharacter, TooManyTokens}
use Rattle.notation_tokens.specs.declared.token_cutting.Piece.{Piece}
use Rattle.notation_tokens.specs.declared.token_cutting.Piece.TheVariants.{Passed, Cut, Bad}
use Rattle.notation_tokens.specs.declared.token_cutting.Lexed.{Lexed}
use Rattle.notation_tokens.specs.declared.token.Token.{Token}
use Rattle.notation_tokens.specs.declared.token.TokenKind.{TokenKind}
use Rattle.notation_tokens.specs.Lexing.{behind_octets, first_place, piece_of, cut, cut_after, lexed_of}

-- tokens that were cut before
abbrev pub with_tokens : List Token → Lexed → Lexed
with_tokens front l = record { tokens = front ++ l.tokens; stop = l.stop; place = l.place }

-- the tokens so far, and what is cut from the rest
pub record Cutting (front : List Token) (from : ℕ) (place : Place) (rest : List ℕ) (total : Lexed) : Type 0 where
  pub turns : ℕ
  pub more : ℕ
  pub enough : length rest ≤ turns
  pub counted : length front + more ≡ most_tokens
  pub so_far : with_tokens front (cut turns more from place rest) ≡ total

pub cutting_starts : (text : List ℕ) → Cutting [] 0 first_place text (lexed_of text)
unfolding lexed_of
cutting_starts text = record { turns = length text; more = most_tokens; enough = omega arith; counted = omega arith; so_far = refl }

-- one turn at a rest that isn't empty
turn : (n more from : ℕ) (place : Place) (rest : List ℕ) (p : Piece) → 0 < length rest → piece_of rest ≡ p → cut (suc n) more from place rest ≡ cut_after (cut n) more from place rest p
unfolding cut
turn n more from place [] p lt e = absurd (omega arith)
turn n more from place (c ∷ cs) p lt e = ap (cut_after (cut n) more from place (c ∷ cs)) e

passes_in : (front : List Token) (from : ℕ) (place : Place) (rest : List ℕ) (total : Lexed) (n turns more : ℕ) → length rest ≤ turns → length front + more ≡ most_tokens → with_tokens front (cut turns more from place rest) ≡ total
    → piece_of rest ≡ Passed n → 0 < n → n ≤ length rest → Cutting front (from + n) (behind_octets place (take n rest)) (drop n rest) total
passes_in front from place rest total n zero more le k h e lt fits = absurd (omega arith)
passes_in front from place rest total n (suc turns) more le k h e lt fits = record {
  turns = turns;
  more = more;
  enough = omega (arith, length-drop n rest);
  counted = k;
  so_far = ap (with_tokens front) (sym (turn turns more from place rest (Passed n) (omega arith) e)) ∙ h;
}

pub passes : (front : List Token) (from : ℕ) (place : Place) (rest : List ℕ) (total : Lexed) (n : ℕ) → Cutting front from place rest total → piece_of rest ≡ Passed n → 0 < n → n ≤ length rest
    → Cutting front (from + n) (behind_octets place (take n rest)) (drop n rest) total
passes front from place rest total n c e lt fits = passes_in front from place rest total n c.turns c.more c.enough c.counted c.so_far e lt fits

abbrev pub token_at : TokenKind → ℕ → ℕ → Place → Token
token_at kind from n place = record { kind = kind; from = from; to = from + n; line = place.line; column = place.column }

cuts_in : (front : List Token) (from : ℕ) (place : Place) (rest : List ℕ) (total : Lexed) (kind : TokenKind) (n turns more : ℕ) → length rest ≤ turns → length front + more ≡ most_tokens → with_tokens front (cut turns more from place rest) ≡ total
    → piece_of rest ≡ Cut kind n → 0 < n → n ≤ length rest → length front < most_tokens → Cutting (front ++ token_at kind from n place ∷ []) (from + n) (behind_octets place (take n rest)) (drop n rest) total
cuts_in front from place rest total kind n zero more le k h e lt fits few = absurd (omega arith)
cuts_in front from place rest total kind n (suc turns) zero le k h e lt fits few = absurd (omega arith)
cuts_in front from place rest total kind n (suc turns) (suc more) le k h e lt fits few =
    let l : Lexed = cut turns more (from + n) (behind_octets place (take n rest)) (drop n rest) in
    record {
      turns = turns;
      more = more;
      enough = omega (arith, length-drop n rest);
      counted = omega (arith, length_push front (token_at kind from n place));
      so_far = ap (λ (ts : List Token). record { tokens = ts; stop = l.stop; place = l.place }) (append_assoc front (token_at kind from n place ∷ []) l.tokens)
          ∙ ap (with_tokens front) (sym (turn turns (suc more) from place rest (Cut kind n) (omega arith) e)) ∙ h;
    }

pub cuts : (front : List Token) (from : ℕ) (place : Place) (rest : List ℕ) (total : Lexed) (kind : TokenKind) (n : ℕ) → Cutting front from place rest total → piece_of rest ≡ Cut kind n → 0 < n → n ≤ length rest → length front < most_tokens
    → Cutting (front ++ token_at kind from n place ∷ []) (from + n) (behind_octets place (take n rest)) (drop n rest) total
cuts front from place rest total kind n c e lt fits few = cuts_in front from place rest total kind n c.turns c.more c.enough c.counted c.so_far e lt fits few

abbrev pub ended : List Token → Option NotationKind → Place → Lexed
ended front stop place = record { tokens = front; stop = stop; place = place }

drop_nil : (front : List Token) (stop : Option NotationKind) (place : Place) → ended front stop place ≡ ended (front ++ []) stop place
drop_nil front stop place = ap (λ (ts : List Token). ended ts stop place) (sym (append-nil front))

full_in : (front : List Token) (from : ℕ) (place : Place) (rest : List ℕ) (total : Lexed) (kind : TokenKind) (n turns more : ℕ) → length rest ≤ turns → length front + more ≡ most_tokens → with_tokens front (cut turns more from place rest) ≡ total
    → piece_of rest ≡ Cut kind n → 0 < length rest → length front ≡ most_tokens → ended front (Some TooManyTokens) place ≡ total
full_in front from place rest total kind n zero more le k h e lt full = absurd (omega arith)
full_in front from place rest total kind n (suc turns) zero le k h e lt full = drop_nil front (Some TooManyTokens) place ∙ ap (with_tokens front) (sym (turn turns zero from place rest (Cut kind n) lt e)) ∙ h
full_in front from place rest total kind n (suc turns) (suc more) le k h e lt full = absurd (omega arith)

pub full : (front : List Token) (from : ℕ) (place : Place) (rest : List ℕ) (total : Lexed) (kind : TokenKind) (n : ℕ) → Cutting front from place rest total → piece_of rest ≡ Cut kind n → 0 < length rest → length front ≡ most_tokens → ended front (Some TooManyTokens) place ≡ total
full front from place rest total kind n c e lt all = full_in front from place rest total kind n c.turns c.more c.enough c.counted c.so_far e lt all

bad_in : (front : List Token) (from : ℕ) (place : Place) (rest : List ℕ) (total : Lexed) (turns more : ℕ) → length rest ≤ turns → with_tokens front (cut turns more from place rest) ≡ total → piece_of rest ≡ Bad → 0 < length rest → ended front (Some BadCharacter) place ≡ total
bad_in front from place rest total zero more le h e lt = absurd (omega arith)
bad_in front from place rest total (suc turns) zero le h e lt = drop_nil front (Some BadCharacter) place ∙ ap (with_tokens front) (sym (turn turns zero from place rest Bad lt e)) ∙ h
bad_in front from place rest total (suc turns) (suc more) le h e lt = drop_nil front (Some BadCharacter) place ∙ ap (with_tokens front) (sym (turn turns (suc more) from place rest Bad lt e)) ∙ h

pub bad : (front : List Token) (from : ℕ) (place : Place) (rest : List ℕ) (total : Lexed) → Cutting front from place rest total → piece_of rest ≡ Bad → 0 < length rest → ended front (Some BadCharacter) place ≡ total
bad front from place rest total c e lt = bad_in front from place rest total c.turns c.more c.enough c.so_far e lt

done_in : (front : List Token) (from : ℕ) (place : Place) (rest : List ℕ) (total : Lexed) (turns more : ℕ) → with_tokens front (cut turns more from place rest) ≡ total → length rest ≡ 0 → ended front None place ≡ total
unfolding cut
done_in front from place [] total turns more h e = drop_nil front None place ∙ h
done_in front from place (c ∷ cs) total turns more h e = absurd (omega arith)

pub cutting_done : (front : List Token) (from : ℕ) (place : Place) (rest : List ℕ) (total : Lexed) → Cutting front from place rest total → length rest ≡ 0 → ended front None place ≡ total
cutting_done front from place rest total c e = done_in front from place rest total c.turns c.more c.so_far e

pub some_left : (n : ℕ) (b : Bool) → b ≡ (n == 0) → b ≡ false → 0 < n
some_left zero b e f = absurd cc
some_left (suc n) b e f = omega arith

pub none_left : (n : ℕ) (b : Bool) → b ≡ (n == 0) → b ≡ true → n ≡ 0
none_left n b e f = eqb-true n 0 (sym e ∙ f)
