use Rattle.std.proofs.Common.{◌≡◌, [], length}
use Rattle.operation_notation.specs.TreeView.{parts_of as trees}
use Rattle.module_faults.specs.Least.{least_from}
use Rattle.module_faults.specs.Locals.{part_faults}
use Rattle.module_faults.proofs.locals.part_names.Given as goal

abbrev pub invariant-loop-rest : goal.invariant-loop-rest
invariant-loop-rest l = least_from l.least.found (part_faults l.names (trees l.rest)) ≡ least_from l.fn.least.found (part_faults [] (trees l.parts))

abbrev pub decreases-loop-rest : goal.decreases-loop-rest
decreases-loop-rest l = length l.rest
