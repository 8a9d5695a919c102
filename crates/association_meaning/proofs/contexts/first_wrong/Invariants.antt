use Rattle.std.proofs.Common.{◌≡◌, drop}
use Rattle.association_meaning.specs.Steps as steps
use Rattle.association_meaning.proofs.contexts.first_wrong.Given as goal

abbrev pub invariant-loop-which : goal.invariant-loop-which
invariant-loop-which l = steps.first_wrong l.which (steps.under_set l.carried l.set) (drop l.which l.pdvs) ≡ steps.first_wrong 0 (steps.under_set l.carried l.set) l.pdvs
