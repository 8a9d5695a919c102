-- The places of a text's tokens never fall.
use Rattle.std.proofs.Common.{ℕ, zero, suc, ◌+◌, Bool, true, false, List, [], ◌∷◌, length, take, drop, map, refl, ◌∙◌, inl, inr, arith}
use Rattle.std.specs.Prelude.{◌==◌, if◌then◌else◌}
use Rattle.notation_tokens.specs.Lexeme.{Lexeme, lexemes}
use Rattle.notation_tokens.specs.Words.{place}
use Rattle.notation_tokens.specs.Lexing.{behind_octet, behind_octets, first_place, piece_of, cut, cut_after, lexed_of}
use Rattle.notation_tokens.specs.Places.{NotAfter, Rising}
use Rattle.notation_tokens.specs.declared.token_cutting.Lexed.{Lexed}
use Rattle.notation_tokens.specs.declared.token_cutting.Piece.{Piece}
use Rattle.notation_tokens.specs.declared.token_cutting.Piece.TheVariants.{Passed, Cut, Bad}
use Rattle.notation_tokens.specs.declared.token.Place.{Place}

-- ---- the order of places

pub after_refl : (p : Place) → NotAfter p p
after_refl p = inr (refl, omega arith)

pub after_trans : (p q r : Place) → NotAfter p q → NotAfter q r → NotAfter p r
after_trans p q r (inl a) (inl b) = inl (omega arith)
after_trans p q r (inl a) (inr b) = inl (omega (arith, b.0))
after_trans p q r (inr a) (inl b) = inl (omega (arith, a.0))
after_trans p q r (inr a) (inr b) = inr (a.0 ∙ b.0, omega (arith, a.1, b.1))

pub lower : (low low' high : Place) (ps : List Place) → NotAfter low low' → Rising low' high ps → Rising low high ps
lower low low' high [] a h = after_trans low low' high a h
lower low low' high (p ∷ ps) a h = (after_trans low low' p a h.0, h.1)

abbrev pub places_of : List Lexeme → List Place
places_of ts = map place ts

-- ---- the tokens of a text

octet_after : (p : Place) (c : ℕ) (b : Bool) → NotAfter p (if b then record { line = p.line + 1; column = 1 } else record { line = p.line; column = p.column + 1 })
octet_after p c true = inl (omega arith)
octet_after p c false = inr (refl, omega arith)

octets_after : (p : Place) (cs : List ℕ) → NotAfter p (behind_octets p cs)
octets_after p [] = after_refl p
octets_after p (c ∷ cs) = after_trans p (behind_octet p c) _ (octet_after p c (c == 10)) (octets_after (behind_octet p c) cs)

abbrev pub Climbs : List ℕ → Place → Lexed → Type 0
Climbs source p l = Rising p l.place (places_of (lexemes source l.tokens))

rises_after : (source : List ℕ) (more : ℕ → ℕ → Place → List ℕ → Lexed) → ((left from : ℕ) (p : Place) (rest : List ℕ) → Climbs source p (more left from p rest))
    → (left from : ℕ) (p : Place) (rest : List ℕ) (piece : Piece) → Climbs source p (cut_after more left from p rest piece)
rises_after source more ih left from p rest (Passed n) = lower p (behind_octets p (take n rest)) _ _ (octets_after p (take n rest)) (ih left (from + n) (behind_octets p (take n rest)) (drop n rest))
rises_after source more ih zero from p rest (Cut kind n) = after_refl p
rises_after source more ih (suc left) from p rest (Cut kind n) = (after_refl p, lower p (behind_octets p (take n rest)) _ _ (octets_after p (take n rest)) (ih left (from + n) (behind_octets p (take n rest)) (drop n rest)))
rises_after source more ih left from p rest Bad = after_refl p

cut_rises : (source : List ℕ) (turns left from : ℕ) (p : Place) (rest : List ℕ) → Climbs source p (cut turns left from p rest)
unfolding cut
cut_rises source turns left from p [] = after_refl p
cut_rises source zero left from p (c ∷ cs) = after_refl p
cut_rises source (suc turns) left from p (c ∷ cs) = rises_after source (cut turns) (cut_rises source turns) left from p (c ∷ cs) (piece_of (c ∷ cs))

pub lexed_rises : (text : List ℕ) → Climbs text first_place (lexed_of text)
unfolding lexed_of
lexed_rises text = cut_rises text (length text) _ 0 first_place text
