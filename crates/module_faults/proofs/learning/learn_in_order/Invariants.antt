use Rattle.module_faults.specs.Known.{AreLearned}
use Rattle.module_faults.proofs.learning.learn_in_order.Given as goal

abbrev pub invariant-loop-place : goal.invariant-loop-place
invariant-loop-place l = AreLearned l.names l.standings l.fn.known → AreLearned l.names l.standings l.known
