use Rattle.std.proofs.Common.{◌≡◌, length}
use Rattle.module_faults.specs.Facts.{has_item}
use Rattle.module_faults.proofs.type_facts.has_item.Given as goal

abbrev pub invariant-loop-rest : goal.invariant-loop-rest
invariant-loop-rest l = has_item l.rest l.name ≡ has_item l.items l.name

abbrev pub decreases-loop-rest : goal.decreases-loop-rest
decreases-loop-rest l = length l.rest
