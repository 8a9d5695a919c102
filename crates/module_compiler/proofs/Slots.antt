-- Items of a list by their places.
use Rattle.std.proofs.Common.{◌≡◌, ℕ, zero, suc, ◌+◌, ◌<◌, List, [], ◌∷◌, ◌++◌, length, drop, get_or, Option, Some, Bool, sym, ap, ◌∙◌, arith}
use Rattle.std.specs.Prelude.{slice_get}
use Rattle.notation_tokens.specs.declared.token.Located.{Located}
use Rattle.operation_notation.specs.declared.module.Assignment.{Assignment}
use Rattle.operation_notation.specs.declared.module.Assigned.{Assigned}
use Rattle.module_faults.specs.Names.{or_none}
use Rattle.module_compiler.specs.ModuleTables.{number_by, numbers_of}

pub slot_of : {X : Type 0} (xs : List X) (i : ℕ) (x : X) → i < length xs → x ≡ get_or xs i x → slice_get xs i ≡ Some x
slot_of [] i x lt e = absurd (omega arith)
slot_of (y ∷ ys) zero x lt e = ap Some (sym e)
slot_of (y ∷ ys) (suc i) x lt e = slot_of ys i x (omega arith) e

drop_one : {X : Type 0} (xs : List X) (i : ℕ) (x : X) → i < length xs → x ≡ get_or xs i x → drop i xs ≡ x ∷ drop (i + 1) xs
drop_one [] i x lt e = absurd (omega arith)
drop_one {X = X} (y ∷ ys) zero x lt e = ap (λ (z : X). z ∷ ys) (sym e)
drop_one (y ∷ ys) (suc i) x lt e =
    let same : suc (i + 1) ≡ suc i + 1 = omega arith in
    drop_one ys i x (omega arith) e ∙ ap (λ (k : ℕ). x ∷ drop k (y ∷ ys)) same

pub numbers_step : (is : Assigned → Bool) (assignments : List Assignment) (names : List Located) (i : ℕ) (x : Located) (so_far next : List ℕ) (n : ℕ) → i < length names → x ≡ get_or names i x → number_by is assignments x.text ≡ Some n → next ≡ so_far ++ n ∷ []
    → numbers_of is assignments next (drop (i + 1) names) ≡ numbers_of is assignments so_far (drop i names)
unfolding numbers_of
numbers_step is assignments names i x so_far next n lt e num grown =
    ap (λ (z : List ℕ). numbers_of is assignments z (drop (i + 1) names)) grown
    ∙ sym (ap (λ (l : List Located). numbers_of is assignments so_far l) (drop_one names i x lt e)
    ∙ ap (λ (o : Option ℕ). or_none o (λ m. numbers_of is assignments (so_far ++ m ∷ []) (drop (i + 1) names))) num)
