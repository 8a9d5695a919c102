-- One more of a list, and its end.
use Rattle.std.proofs.Common.{◌≡◌, ℕ, zero, suc, ◌-◌, ◌<◌, ◌≤◌, List, [], ◌∷◌, ◌++◌, length, take, drop, get_or, Option, refl, sym, ap, ◌∙◌, arith}
use Rattle.std.proofs.Math.Seq.{take-append_seam}
use Rattle.module_faults.specs.declared.least.Found.{Found}
use Rattle.module_faults.specs.Least.{least_from}
use Rattle.module_faults.proofs.LeastLaws.{least_append, least_none}

-- what is behind the first
abbrev pub rest_of : {X : Type 0} → List X → List X
rest_of xs = take (length xs - 1) (drop 1 xs)

take_all : {X : Type 0} (xs : List X) (n : ℕ) → n ≡ length xs → xs ≡ take n xs
take_all [] zero e = refl
take_all [] (suc n) e = absurd (omega arith)
take_all (x ∷ xs) zero e = absurd (omega arith)
take_all {X = X} (x ∷ xs) (suc n) e = ap (λ (z : List X). x ∷ z) (take_all xs n (omega arith))

pub cons_of : {X : Type 0} (xs : List X) (x : X) → 1 ≤ length xs → x ≡ get_or xs 0 x → xs ≡ x ∷ rest_of xs
cons_of [] x lt is = absurd (omega arith)
cons_of {X = X} (y ∷ ys) x lt is =
    let one : length (y ∷ ys) - 1 ≡ length ys = omega arith in
    ap (λ (z : X). z ∷ ys) (sym is) ∙ ap (λ (z : List X). x ∷ z) (take_all ys (length (y ∷ ys) - 1) one)

pub loop_step : {X : Type 0} (f : List X → List Found) (xs : List X) (x : X) (a b : List Found) (s m w : Option Found) → 1 ≤ length xs → x ≡ get_or xs 0 x → f (x ∷ rest_of xs) ≡ a ++ b → m ≡ least_from s a → least_from s (f xs) ≡ w → least_from m b ≡ w
loop_step {X = X} f xs x a b s m w lt is e h i =
    ap (λ (z : Option Found). least_from z b) h ∙ sym (least_append s a b) ∙ ap (λ (z : List Found). least_from s z) (sym e) ∙ ap (λ (z : List X). least_from s (f z)) (sym (cons_of xs x lt is)) ∙ i

pub loop_end : {X : Type 0} (f : List X → List Found) (xs : List X) (s w : Option Found) → length xs < 1 → f [] ≡ [] → least_from s (f xs) ≡ w → s ≡ w
loop_end f [] s w lt e i = least_none s ∙ ap (λ (z : List Found). least_from s z) (sym e) ∙ i
loop_end f (y ∷ ys) s w lt e i = absurd (omega arith)

-- what is written to a vector's elements is what it has then
pub written_back : {X : Type 0} (items written : List X) (n : ℕ) → n ≡ length items → length written ≡ length items → take n (written ++ drop (length written) items) ≡ written
written_back items written n long same =
    ap (λ (k : ℕ). take k (written ++ drop (length written) items)) (long ∙ sym same) ∙ take-append_seam written (drop (length written) items)
