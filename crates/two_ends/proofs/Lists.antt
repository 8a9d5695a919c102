-- Lists that are gone through, item after item.
use Rattle.std.proofs.Common.{◌≡◌, ℕ, zero, suc, ◌+◌, ◌<◌, ◌≤◌, get_or, arith, List, [], ◌∷◌, ◌++◌, length, take, refl, sym, ap, ◌∙◌}
use Rattle.std.proofs.Math.Seq.{take-suc}

pub take_one_more : {X : Type 0} (l : List X) (i : ℕ) (e : X) → i < length l → e ≡ get_or l i e → take (i + 1) l ≡ take i l ++ e ∷ []
take_one_more l i e lt is = ap (λ (n : ℕ). take n l) (let one : i + 1 ≡ suc i = omega arith in one) ∙ take-suc l i e lt ∙ ap (λ x. take i l ++ x ∷ []) (sym is)

pub take_whole : {X : Type 0} (l : List X) (n : ℕ) → length l ≤ n → take n l ≡ l
take_whole [] zero le = refl
take_whole [] (suc n) le = refl
take_whole (x ∷ l) zero le = absurd (omega (arith, le))
take_whole (x ∷ l) (suc n) le = ap (λ k. x ∷ k) (take_whole l n (omega (arith, le)))
