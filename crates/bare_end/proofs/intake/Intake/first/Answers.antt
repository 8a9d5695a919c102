use Rattle.std.proofs.Common.{ℕ, List, false, subst, ◌∙◌}
use Rattle.bare_end.specs.First.{IsFirst}
use Rattle.bare_end.proofs.Fronts.{first_found}
use Rattle.bare_end.proofs.intake.Intake.first.Goals as goal

pub returns-clause-first : goal.returns-clause-first
returns-clause-first c =
    subst (λ (octets : List ℕ). IsFirst octets c.front.result) (c.as_slice-octets.ensures ∙ c.self.view_is)
    (first_found c.as_slice-octets.result.now c.hold_octets.ensures c.front.result (c.front.ensures.front false))
