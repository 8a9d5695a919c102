use Rattle.std.proofs.Common.{◌≡◌, drop}
use Rattle.osi_base.specs.Syntax.{acse_name}
use Rattle.association_meaning.specs.Steps as steps
use Rattle.association_meaning.proofs.association.first_wrong_unless_left.Given as goal

abbrev pub invariant-loop-which : goal.invariant-loop-which
invariant-loop-which l = steps.first_wrong l.which (steps.unless_left l.definitions (steps.under_set acse_name l.set)) (drop l.which l.pdvs) ≡ steps.first_wrong 0 (steps.unless_left l.definitions (steps.under_set acse_name l.set)) l.pdvs
