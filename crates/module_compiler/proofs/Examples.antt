-- A module to begin with has no fault.
use Rattle.std.proofs.Common.{◌≡◌, ℕ, zero, suc, Bool, true, false, List, [], ◌∷◌, refl, subst}
use Rattle.module_faults.specs.Names.{find}
use Rattle.module_faults.specs.Locals.{type_faults}
use Rattle.module_faults.specs.Recursion.{type_uses, bodies_uses, Uses, Reaches, at_once, over, SaysRecursion}
use Rattle.module_faults.specs.Facts.{type_facts, type_shows}
use Rattle.module_faults.specs.Faults.{faults_by}
use Rattle.module_compiler.specs.Examples.{one}
use Rattle.module_compiler.specs.Refusals.{HasNoFault}

never : ℕ → Bool
never place = false

uses_are : bodies_uses one.assignments one.assignments ≡ [] ∷ []
unfolding type_uses
uses_are = refl

none_used : (from to : ℕ) → Uses ([] ∷ []) from to → ⊥
none_used zero to u = cc
none_used (suc from) to u = cc

none_reaches : (lists : List (List ℕ)) → ((from to : ℕ) → Uses lists from to → ⊥) → (from to : ℕ) → Reaches lists from to → ⊥
none_reaches lists unused _ _ (at_once from to u) = unused from to u
none_reaches lists unused _ _ (over from next to u r) = unused from next u

says : SaysRecursion one.assignments never
unfolding never
says = record {
  sound = λ place (e : false ≡ true). absurd cc;
  whole = λ place r. absurd (none_reaches (bodies_uses one.assignments one.assignments) (λ from to u. none_used from to (subst (λ (l : List (List ℕ)). Uses l from to) uses_are u)) place place r);
}

none : faults_by one.assignments never ≡ []
unfolding never find type_faults type_facts type_shows
none = refl

pub one_is_faultless : HasNoFault one
one_is_faultless = record { recursive = never; says = says; none = none }
