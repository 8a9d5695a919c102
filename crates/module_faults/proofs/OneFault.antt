-- A module has one least fault, or none.
use Rattle.std.proofs.Common.{◌≡◌, ℕ, Bool, true, false, List, Option, refl, sym, ap, ◌∙◌}
use Rattle.operation_notation.specs.declared.module.Assignment.{Assignment}
use Rattle.module_faults.specs.declared.least.Found.{Found}
use Rattle.module_faults.specs.Least.{least}
use Rattle.module_faults.specs.Recursion.{SaysRecursion}
use Rattle.module_faults.specs.Faults.{faults_by, IsLeastFault}

same_truth : (a b : Bool) → (a ≡ true → b ≡ true) → (b ≡ true → a ≡ true) → a ≡ b
same_truth true b f g = sym (f refl)
same_truth false true f g = g refl
same_truth false false f g = refl

-- two tests that say which types reach themselves say the same of each
same_says : (all : List Assignment) (one another : ℕ → Bool) → SaysRecursion all one → SaysRecursion all another → (place : ℕ) → one place ≡ another place
same_says all one another f g place =
    same_truth (one place) (another place) (λ (h : one place ≡ true). g.whole place (f.sound place h)) (λ (h : another place ≡ true). f.whole place (g.sound place h))

pub one_least : (all : List Assignment) (one another : Option Found) → IsLeastFault all one → IsLeastFault all another → one ≡ another
one_least all one another f g =
    let each : (place : ℕ) → f.recursive place ≡ g.recursive place = same_says all f.recursive g.recursive f.says g.says in
    let same : f.recursive ≡ g.recursive = (λ j. λ place. each place j) in
    f.is ∙ ap (λ (test : ℕ → Bool). least (faults_by all test)) same ∙ sym g.is
