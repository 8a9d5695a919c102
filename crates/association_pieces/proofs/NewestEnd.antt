-- Lists at their newest end, and what is left of them.
use Rattle.std.proofs.Common.{◌≡◌, ℕ, zero, suc, ◌+◌, ◌<◌, Bool, true, false, nat_eq, nat_lt, List, [], ◌∷◌, ◌++◌, length, drop, Some, refl, ap, sym, ◌∙◌, arith, length-append}
use Rattle.std.proofs.Common.{reverse, append-nil}
use Rattle.std.proofs.lemmas.List.{reverse-append}
use Rattle.association_pieces.specs.Pieces.{octets_in}
use Rattle.std.specs.Prelude.{slice_get}
use Rattle.osi_base.specs.declared.layer_words.SetItem.{SetItem}
use Rattle.association_sets.specs.end_rules.Sets.{Saved, below}
use Rattle.association_sets.specs.end_rules.State.{Piece, Octets, Marked, joined, from_mark}
use Rattle.association_pieces.specs.NewestEnd.{top_of, rest, starts_below, starts_at, front_octets}

pub first_got : {X : Type 0} (xs : List X) → slice_get xs 0 ≡ top_of xs
first_got [] = refl
first_got (x ∷ xs) = refl

pub left_at : {X : Type 0} (xs : List X) (n : ℕ) (x : X) → slice_get xs n ≡ Some x → drop n xs ≡ x ∷ drop (n + 1) xs
left_at [] n x e = absurd cc
left_at (y ∷ xs) zero x e = let h : y ≡ x = cc in ap (λ z. z ∷ xs) h
left_at (y ∷ xs) (suc n) x e = let h : suc n + 1 ≡ suc (n + 1) = omega arith in rw h (left_at xs n x e)

-- ---- saved sets

below_by : (n : ℕ) (mark : Saved) (marks : List Saved) (b : Bool) → nat_lt mark.number n ≡ b → b ≡ true → below n (mark ∷ marks) ≡ mark ∷ marks
below_by n mark marks true e f = rw e refl
below_by n mark marks false e f = cc

pub below_here : (n : ℕ) (marks : List Saved) → starts_below n marks ≡ true → below n marks ≡ marks
below_here n [] e = refl
below_here n (mark ∷ marks) e = below_by n mark marks (nat_lt mark.number n) refl e

above_by : (n : ℕ) (mark : Saved) (marks : List Saved) (b : Bool) → nat_lt mark.number n ≡ b → b ≡ false → below n marks ≡ below n (mark ∷ marks)
above_by n mark marks false e f = rw e refl
above_by n mark marks true e f = cc

pub below_rest : (n : ℕ) (marks : List Saved) → starts_below n marks ≡ false → below n (rest marks) ≡ below n marks
below_rest n [] e = cc
below_rest n (mark ∷ marks) e = above_by n mark marks (nat_lt mark.number n) refl e

pub fewer_marks : (n : ℕ) (marks : List Saved) → starts_below n marks ≡ false → length (rest marks) < length marks
fewer_marks n [] e = absurd cc
fewer_marks n (mark ∷ marks) e = omega arith

-- ---- pieces

mark_by : (n m : ℕ) (set : List SetItem) (pieces : List Piece) (b : Bool) → nat_eq m n ≡ b → b ≡ true → from_mark n (Marked m set ∷ pieces) ≡ Marked m set ∷ pieces
mark_by n m set pieces true e f = rw e refl
mark_by n m set pieces false e f = cc

pub mark_here : (n : ℕ) (pieces : List Piece) → starts_at n pieces ≡ true → from_mark n pieces ≡ pieces
mark_here n [] e = refl
mark_here n (Octets octets ∷ pieces) e = cc
mark_here n (Marked m set ∷ pieces) e = mark_by n m set pieces (nat_eq m n) refl e

other_by : (n m : ℕ) (set : List SetItem) (pieces : List Piece) (b : Bool) → nat_eq m n ≡ b → b ≡ false → from_mark n pieces ≡ from_mark n (Marked m set ∷ pieces)
other_by n m set pieces false e f = rw e refl
other_by n m set pieces true e f = cc

pub mark_rest : (n : ℕ) (pieces : List Piece) → starts_at n pieces ≡ false → from_mark n (rest pieces) ≡ from_mark n pieces
mark_rest n [] e = cc
mark_rest n (Octets octets ∷ pieces) e = refl
mark_rest n (Marked m set ∷ pieces) e = other_by n m set pieces (nat_eq m n) refl e

pub fewer_pieces : (n : ℕ) (pieces : List Piece) → starts_at n pieces ≡ false → length (rest pieces) < length pieces
fewer_pieces n [] e = absurd cc
fewer_pieces n (piece ∷ pieces) e = omega arith

pub joined_rest : (pieces : List Piece) → length (joined (rest pieces)) + length (front_octets pieces) ≡ length (joined pieces)
joined_rest [] = refl
joined_rest (Octets octets ∷ pieces) = sym (length-append (joined pieces) octets)
joined_rest (Marked m set ∷ pieces) = omega arith

-- octets behind a list that is kept from its oldest piece on
pub joined_push : (xs : List Piece) (p : Piece) → joined (reverse (xs ++ p ∷ [])) ≡ joined (reverse xs) ++ octets_in p
joined_push xs (Octets octets) = ap joined (reverse-append xs (Octets octets ∷ []))
joined_push xs (Marked m set) = ap joined (reverse-append xs (Marked m set ∷ [])) ∙ sym (append-nil (joined (reverse xs)))
