use Rattle.module_faults.specs.ReachSets.{AreReached, outs}
use Rattle.module_faults.proofs.reach_sets.reach.Given as goal

abbrev pub invariant-loop-to : goal.invariant-loop-to
invariant-loop-to l = AreReached l.uses l.place l.reached.items

abbrev pub decreases-loop-to : goal.decreases-loop-to
decreases-loop-to l = outs l.reached.items
