-- The least of faults that come one behind the other.
use Rattle.std.proofs.Common.{◌≡◌, List, [], ◌∷◌, ◌++◌, Option, refl, ap, ◌∙◌, sym}
use Rattle.module_faults.specs.declared.least.Found.{Found}
use Rattle.module_faults.specs.Least.{lesser, least_from}

pub least_append : (s : Option Found) (a b : List Found) → least_from s (a ++ b) ≡ least_from (least_from s a) b
unfolding least_from
least_append s [] b = refl
least_append s (f ∷ a) b = least_append (lesser s f) a b

-- some faults, and then others
pub least_two : (s m n : Option Found) (a b : List Found) → m ≡ least_from s a → n ≡ least_from m b → n ≡ least_from s (a ++ b)
least_two s m n a b e f = f ∙ ap (λ (z : Option Found). least_from z b) e ∙ sym (least_append s a b)

-- no more faults
pub least_none : (s : Option Found) → s ≡ least_from s []
unfolding least_from
least_none s = refl

pub least_one : (s : Option Found) (f : Found) → lesser s f ≡ least_from s (f ∷ [])
unfolding least_from
least_one s f = refl
