-- Transfers as lists of octets and marks.
use Rattle.std.proofs.Common.{◌≡◌, ℕ, zero, suc, ◌≤◌, true, false, nat_eq, List, [], ◌∷◌, ◌++◌, refl, sym, ap, ◌∙◌, arith, subst, le_trans, eqb-true}
use Rattle.std.specs.Prelude.{Some}
use Rattle.std.proofs.lemmas.Bool.{eqb-false}
use Rattle.std.proofs.lemmas.Bool.Decides.{nat_tests}
use Rattle.agreement.specs.Sets.{ContextSet, Saved, below, newest, lookup}
use Rattle.agreement.specs.Messages.{Value}
use Rattle.agreement.specs.State.{Piece, from_mark, up_to, newest_set, highest}
use Rattle.agreement.specs.State.Piece.{Octets, Marked}
use Rattle.agreement.proofs.Order.{by_test}

-- marks count from 1
abbrev pub Numbered : List Piece → Type 0
Numbered [] = Unit {0}
Numbered (Octets octets ∷ pieces) = Numbered pieces
Numbered (Marked m set ∷ pieces) = (m ≡ suc (highest pieces)) × Numbered pieces

-- the marks with their sets
abbrev pub saved_in : List Piece → List Saved
saved_in [] = []
saved_in (Octets octets ∷ pieces) = saved_in pieces
saved_in (Marked m set ∷ pieces) = record { number = m; set = set } ∷ saved_in pieces

-- each mark's set gives the value's context its pair
abbrev pub Carries : Value → List Piece → Type 0
Carries value [] = Unit {0}
Carries value (Octets octets ∷ pieces) = Carries value pieces
Carries value (Marked m set ∷ pieces) = (lookup set value.identifier ≡ Some value.pair) × Carries value pieces

-- two ends have the same up to a mark
pub record Agrees (n : ℕ) (p q : List Piece) : Type 0 where
  pub in_first : n ≤ highest p
  pub in_second : n ≤ highest q
  pub same : up_to n p ≡ up_to n q

pub agrees-zero : (p q : List Piece) → Agrees 0 p q
agrees-zero p q = record { in_first = omega arith; in_second = omega arith; same = refl }

pub up_to-octets : (n : ℕ) (o : List ℕ) (p : List Piece) → up_to n (Octets o ∷ p) ≡ up_to n p
up_to-octets zero o p = refl
up_to-octets (suc n) o p = refl

pub up_to-mark : (n m : ℕ) (s : ContextSet) (p : List Piece) → m ≡ suc (highest p) → n ≤ highest p → up_to n (Marked m s ∷ p) ≡ up_to n p
up_to-mark zero m s p e h = refl
up_to-mark (suc n) m s p e h = grind (arith, nat_tests)

from_mark-idem : (n : ℕ) (p : List Piece) → from_mark n (from_mark n p) ≡ from_mark n p
from_mark-idem n [] = refl
from_mark-idem n (Octets o ∷ p) = from_mark-idem n p
from_mark-idem n (Marked m s ∷ p) =
    by_test (λ x. from_mark n x ≡ x) (nat_eq m n) (Marked m s ∷ p) (from_mark n p) (λ t. found t) (λ t. from_mark-idem n p)
  where
    found : nat_eq m n ≡ true → from_mark n (Marked m s ∷ p) ≡ Marked m s ∷ p
    found t = grind (arith, nat_tests)

pub up_to-idem : (n : ℕ) (p : List Piece) → up_to n (up_to n p) ≡ up_to n p
up_to-idem zero p = refl
up_to-idem (suc n) p = from_mark-idem (suc n) p

highest-from_mark : (n : ℕ) (p : List Piece) → Numbered p → suc n ≤ highest p → highest (from_mark (suc n) p) ≡ suc n
highest-from_mark n [] d h = absurd (omega arith)
highest-from_mark n (Octets o ∷ p) d h = highest-from_mark n p d h
highest-from_mark n (Marked m s ∷ p) d h =
    by_test (λ x. highest x ≡ suc n) (nat_eq m (suc n)) (Marked m s ∷ p) (from_mark (suc n) p)
    (λ t. eqb-true m (suc n) t) (λ t. highest-from_mark n p d.1 (rest t))
  where
    rest : nat_eq m (suc n) ≡ false → suc n ≤ highest p
    rest t = let e = d.0 in let f = eqb-false m (suc n) t in grind arith

pub highest-up_to : (n : ℕ) (p : List Piece) → Numbered p → n ≤ highest p → highest (up_to n p) ≡ n
highest-up_to zero p d h = refl
highest-up_to (suc n) p d h = highest-from_mark n p d h

numbered-from_mark : (n : ℕ) (p : List Piece) → Numbered p → Numbered (from_mark n p)
numbered-from_mark n [] d = tt
numbered-from_mark n (Octets o ∷ p) d = numbered-from_mark n p d
numbered-from_mark n (Marked m s ∷ p) d = by_test Numbered (nat_eq m n) _ _ (λ t. d) (λ t. numbered-from_mark n p d.1)

pub numbered-up_to : (n : ℕ) (p : List Piece) → Numbered p → Numbered (up_to n p)
numbered-up_to zero p d = tt
numbered-up_to (suc n) p d = numbered-from_mark (suc n) p d

carries-from_mark : (v : Value) (n : ℕ) (p : List Piece) → Carries v p → Carries v (from_mark n p)
carries-from_mark v n [] d = tt
carries-from_mark v n (Octets o ∷ p) d = carries-from_mark v n p d
carries-from_mark v n (Marked m s ∷ p) d = by_test (Carries v) (nat_eq m n) _ _ (λ t. d) (λ t. carries-from_mark v n p d.1)

pub carries-up_to : (v : Value) (n : ℕ) (p : List Piece) → Carries v p → Carries v (up_to n p)
carries-up_to v zero p d = tt
carries-up_to v (suc n) p d = carries-from_mark v (suc n) p d

-- the set of the newest mark carries the value, if there is one
pub carries-newest : (v : Value) (p : List Piece) → Carries v p → 1 ≤ highest p → lookup (newest_set p) v.identifier ≡ Some v.pair
carries-newest v [] c h = absurd (omega arith)
carries-newest v (Octets o ∷ p) c h = carries-newest v p c h
carries-newest v (Marked m s ∷ p) c h = c.0

below-one : (p : List Piece) → Numbered p → below 1 (saved_in p) ≡ []
below-one [] d = refl
below-one (Octets o ∷ p) d = below-one p d
below-one (Marked m s ∷ p) d = let ih = below-one p d.1 in let e = d.0 in grind (arith, nat_tests)

below-from_mark : (n : ℕ) (p : List Piece) → Numbered p → suc n ≤ highest p → saved_in (from_mark (suc n) p) ≡ below (suc (suc n)) (saved_in p)
below-from_mark n [] d h = refl
below-from_mark n (Octets o ∷ p) d h = below-from_mark n p d h
below-from_mark n (Marked m s ∷ p) d h =
    by_test (λ x. saved_in x ≡ below (suc (suc n)) (saved_in (Marked m s ∷ p))) (nat_eq m (suc n)) (Marked m s ∷ p) (from_mark (suc n) p) here (there (below-from_mark n p d.1))
  where
    here : nat_eq m (suc n) ≡ true → saved_in (Marked m s ∷ p) ≡ below (suc (suc n)) (saved_in (Marked m s ∷ p))
    here t = let e = eqb-true m (suc n) t in grind (arith, nat_tests)

    there : (suc n ≤ highest p → saved_in (from_mark (suc n) p) ≡ below (suc (suc n)) (saved_in p)) → nat_eq m (suc n) ≡ false → saved_in (from_mark (suc n) p) ≡ below (suc (suc n)) (saved_in (Marked m s ∷ p))
    there ih t =
        let f = eqb-false m (suc n) t in
        let e = d.0 in
        let lower : suc n ≤ highest p = grind arith in
        let skip : below (suc (suc n)) (saved_in (Marked m s ∷ p)) ≡ below (suc (suc n)) (saved_in p) = grind (arith, nat_tests) in
        ih lower ∙ sym skip

pub saved-up_to : (n : ℕ) (p : List Piece) → Numbered p → n ≤ highest p → saved_in (up_to n p) ≡ below (suc n) (saved_in p)
saved-up_to zero p d h = sym (below-one p d)
saved-up_to (suc n) p d h = below-from_mark n p d h

pub newest-saved : (p : List Piece) → newest_set p ≡ newest (saved_in p)
newest-saved [] = refl
newest-saved (Octets o ∷ p) = newest-saved p
newest-saved (Marked m s ∷ p) = refl

highest-append : (ext p : List Piece) → Numbered (ext ++ p) → highest p ≤ highest (ext ++ p)
highest-append [] p d = omega arith
highest-append (Octets o ∷ ext) p d = highest-append ext p d
highest-append (Marked m s ∷ ext) p d = let ih = highest-append ext p d.1 in let e = d.0 in omega arith

up_to-append : (n : ℕ) (ext p : List Piece) → Numbered (ext ++ p) → n ≤ highest p → up_to n (ext ++ p) ≡ up_to n p
up_to-append n [] p d h = refl
up_to-append n (Octets o ∷ ext) p d h = up_to-octets n o (ext ++ p) ∙ up_to-append n ext p d h
up_to-append n (Marked m s ∷ ext) p d h = up_to-mark n m s (ext ++ p) d.0 (le_trans h (highest-append ext p d.1)) ∙ up_to-append n ext p d.1 h

-- what one end has of the other's transfer agrees with it up to each mark
pub agrees-part : (n : ℕ) (ext p q : List Piece) → q ≡ ext ++ p → Numbered q → n ≤ highest p → Agrees n q p
agrees-part n ext p q e d h =
    let d' : Numbered (ext ++ p) = subst Numbered e d in
    record {
      in_first = subst (λ x. n ≤ highest x) (sym e) (le_trans h (highest-append ext p d'));
      in_second = h;
      same = ap (up_to n) e ∙ up_to-append n ext p d' h;
    }
