use Rattle.std.proofs.Common.{◌≡◌, drop}
use Rattle.association_meaning.specs.Steps as steps
use Rattle.association_meaning.proofs.association.first_form_wrong.Given as goal

abbrev pub invariant-loop-which : goal.invariant-loop-which
invariant-loop-which l = steps.first_wrong l.which steps.unasked (drop l.which l.pdvs) ≡ steps.first_wrong 0 steps.unasked l.pdvs
