use Rattle.std.proofs.Common.{List, subst}
use Rattle.module_faults.specs.declared.reach_search.Standing.{Standing}
use Rattle.module_faults.specs.Standings.{AreShown}
use Rattle.module_faults.proofs.Recursing.{shown_survey}
use Rattle.module_faults.proofs.reach_sets.recursion_survey.Goals as goal

pub returns-then-are_shown : goal.returns-then-are_shown
returns-then-are_shown c =
    shown_survey c.args.uses.now c.in_ok-survey.survey.standings.items (subst (λ (z : List Standing). AreShown c.args.uses.now z) c.deref.ensures.value (c.are_shown.ensures.shown c.if-are_shown.true))
