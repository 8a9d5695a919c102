use Rattle.std.proofs.Common.{◌≡◌, ◌+◌, drop}
use Rattle.context_sets.specs.Alterations.{additions}
use Rattle.context_sets.proofs.asking.additions.Given as goal

abbrev pub invariant-loop-alteration : goal.invariant-loop-alteration
invariant-loop-alteration l = l.count + additions (drop l.alteration-index l.alterations) ≡ additions l.alterations
