-- Octets compared one after the other.
use Rattle.std.proofs.Common.{◌≡◌, ◌≢◌, ℕ, zero, suc, ◌<◌, ◌≤◌, Bool, true, false, not, ◌||◌, List, [], ◌∷◌, length, drop, get_or, min, refl, sym, ap, ◌∙◌, arith, inl, inr}
use Rattle.std.specs.Prelude.{nat_lt}
use Rattle.std.proofs.lemmas.Bool.{ne_eqb, eq-eqb, le-ltb, lt-ltb, cases_lt}
use Rattle.asn1_types.specs.Value.{Value}
use Rattle.asn1_types.specs.Rising.{is_less, behind_last}

or_false : (b : Bool) → (b || false) ≡ b
or_false true = refl
or_false false = refl

pub less_differs : (xs ys : List ℕ) (i a b : ℕ) → i < length xs → i < length ys → get_or xs i 0 ≡ a → get_or ys i 0 ≡ b → a ≢ b → is_less (drop i xs) (drop i ys) ≡ nat_lt a b
less_differs [] ys i a b lt more e d ne = absurd (omega arith)
less_differs (x ∷ xs) [] i a b lt more e d ne = absurd (omega arith)
less_differs (x ∷ xs) (y ∷ ys) zero a b lt more e d ne = rw (e, d, ne_eqb a b ne) (or_false (nat_lt a b))
less_differs (x ∷ xs) (y ∷ ys) (suc i) a b lt more e d ne = less_differs xs ys i a b (omega arith) (omega arith) e d ne

pub less_same : (xs ys : List ℕ) (i j a : ℕ) → j ≡ suc i → i < length xs → i < length ys → get_or xs i 0 ≡ a → get_or ys i 0 ≡ a → is_less (drop i xs) (drop i ys) ≡ is_less (drop j xs) (drop j ys)
less_same [] ys i j a up lt more e d = absurd (omega arith)
less_same (x ∷ xs) [] i j a up lt more e d = absurd (omega arith)
less_same (x ∷ xs) (y ∷ ys) zero j a up lt more e d = rw (up, e, d, le-ltb a a (omega arith), eq-eqb a a refl) refl
less_same (x ∷ xs) (y ∷ ys) (suc i) j a up lt more e d = rw up (less_same xs ys i (suc i) a refl (omega arith) (omega arith) e d)

pub less_ends : (xs ys : List ℕ) (i : ℕ) → i ≤ length xs → i ≤ length ys → min (length xs) (length ys) ≤ i → is_less (drop i xs) (drop i ys) ≡ nat_lt (length xs) (length ys)
less_ends [] [] zero le more end = refl
less_ends [] (y ∷ ys) zero le more end = sym (lt-ltb 0 (suc (length ys)) (omega arith))
less_ends (x ∷ xs) [] zero le more end = sym (le-ltb (suc (length xs)) 0 (omega arith))
less_ends (x ∷ xs) (y ∷ ys) zero le more end = absurd (omega arith)
less_ends [] ys (suc i) le more end = absurd (omega arith)
less_ends (x ∷ xs) [] (suc i) le more end = absurd (omega arith)
less_ends (x ∷ xs) (y ∷ ys) (suc i) le more end = less_ends xs ys i (omega arith) (omega arith) (omega arith) ∙ shifted (length xs) (length ys)
  where
    shifted : (a b : ℕ) → nat_lt a b ≡ nat_lt (suc a) (suc b)
    shifted a b = elim (cases_lt a b) [
      | inl lt ↦ rw (lt-ltb a b lt, lt-ltb (suc a) (suc b) (omega arith)) refl
      | inr ge ↦ rw (le-ltb a b ge, le-ltb (suc a) (suc b) (omega arith)) refl
    ]

-- ---- the last item

pub last_is : (spell : Value → List ℕ) (ws : List Value) (i : ℕ) (w v : Value) → length ws ≡ suc i → w ≡ get_or ws i w → behind_last spell ws v ≡ not (is_less (spell v) (spell w))
last_is spell [] i w v e g = absurd (omega arith)
last_is spell (x ∷ []) zero w v e g = ap (λ (y : Value). not (is_less (spell v) (spell y))) (sym g)
last_is spell (x ∷ []) (suc i) w v e g = absurd (omega arith)
last_is spell (x ∷ y ∷ ws) zero w v e g = absurd (omega arith)
last_is spell (x ∷ y ∷ ws) (suc i) w v e g = last_is spell (y ∷ ws) i w v (omega arith) g
