use Rattle.std.proofs.Common.{◌≡◌, length}
use Rattle.module_faults.specs.Facts.{clash}
use Rattle.module_faults.proofs.tags.clashes.Given as goal

abbrev pub invariant-loop-rest : goal.invariant-loop-rest
invariant-loop-rest l = clash l.before.keys l.rest ≡ clash l.before.keys l.tags

abbrev pub decreases-loop-rest : goal.decreases-loop-rest
decreases-loop-rest l = length l.rest
