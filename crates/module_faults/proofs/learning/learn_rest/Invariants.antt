use Rattle.module_faults.specs.Known.{AreLearned, unknowns}
use Rattle.module_faults.proofs.learning.learn_rest.Given as goal

abbrev pub invariant-loop-place : goal.invariant-loop-place
invariant-loop-place l = AreLearned l.names l.standings l.known

abbrev pub decreases-loop-place : goal.decreases-loop-place
decreases-loop-place l = unknowns l.known
