use Rattle.std.proofs.Common.{◌≡◌, length}
use Rattle.module_faults.specs.ReachSets.{first_out}
use Rattle.module_faults.proofs.reach_sets.first_out.Given as goal

abbrev pub invariant-loop-rest : goal.invariant-loop-rest
invariant-loop-rest l = first_out l.reached l.rest ≡ first_out l.reached l.named

abbrev pub decreases-loop-rest : goal.decreases-loop-rest
decreases-loop-rest l = length l.rest
