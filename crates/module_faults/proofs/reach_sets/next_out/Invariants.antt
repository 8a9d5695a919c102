use Rattle.std.proofs.Common.{◌≡◌, ℕ, ◌<◌, None}
use Rattle.module_faults.specs.ReachSets.{first_from}
use Rattle.module_faults.proofs.reach_sets.next_out.Given as goal

abbrev pub invariant-loop-from : goal.invariant-loop-from
invariant-loop-from l = (from : ℕ) → from < l.from → first_from l.uses l.place l.reached from ≡ None
