use Rattle.std.proofs.Common.{◌≡◌, length}
use Rattle.module_faults.specs.Facts.{with_tags}
use Rattle.module_faults.proofs.tags.add_tags.Given as goal

abbrev pub invariant-loop-rest : goal.invariant-loop-rest
invariant-loop-rest l = with_tags l.before.keys l.rest ≡ with_tags l.fn.before.keys l.tags

abbrev pub decreases-loop-rest : goal.decreases-loop-rest
decreases-loop-rest l = length l.rest
