use Rattle.std.proofs.Common.{ℕ, List, sym, ap, subst, ◌∙◌}
use Rattle.module_faults.specs.declared.reach_search.Standing.{Standing}
use Rattle.module_faults.specs.Least.{least_from}
use Rattle.module_faults.specs.Recursion.{bodies_uses}
use Rattle.module_faults.specs.Standings.{says}
use Rattle.module_faults.specs.ReachSets.{IsRightSurvey}
use Rattle.module_faults.specs.Facts.{env_of}
use Rattle.module_faults.specs.Faults.{bodies_show, first_recursive}
use Rattle.module_faults.proofs.Whole.{of_names}
use Rattle.module_faults.proofs.faults.least_fault.Goals as goal

pub shown_faults-requires : goal.shown_faults-requires
shown_faults-requires c =
    subst (λ (z : List Standing). IsRightSurvey (bodies_uses c.in_ok-names.names c.in_ok-names.names) z) (sym c.deref-2.ensures.value)
    (subst (λ (z : List (List ℕ)). IsRightSurvey z c.in_ok-survey.survey.standings.items) c.in_ok-uses.ensures c.in_ok-survey.ensures)

pub returns : goal.returns
returns c =
    of_names c.args.assignments.now c.in_ok-names.names c.in_ok-uses.uses c.in_ok-survey.survey.standings.items c.new-least.result.found c.double_names.new.least.found c.of_bodies.new.least.found c.double_codes.new.least.found c.double_codes-2.new.least.found c.first_recursive.new.least.found c.shown_faults.new.least.found c.in_ok-names.ensures
    (record {
      none = c.new-least.ensures;
      names_twice = c.in_ok-double_names.ensures.found;
      bodies = c.in_ok-of_bodies.ensures;
      operations = c.in_ok-double_codes.ensures;
      errors = c.in_ok-double_codes-2.ensures;
      recursive = c.in_ok-first_recursive.ensures.found ∙ ap (λ (z : List Standing). least_from c.double_codes-2.new.least.found (first_recursive (says z) 0 c.args.assignments.now)) c.deref.ensures.value;
      shown = c.in_ok-shown_faults.ensures ∙ ap (λ (z : List Standing). least_from c.first_recursive.new.least.found (bodies_show (env_of c.in_ok-names.names (says z)) c.in_ok-names.names)) c.deref-2.ensures.value;
    }) c.in_ok-uses.ensures c.in_ok-survey.ensures
