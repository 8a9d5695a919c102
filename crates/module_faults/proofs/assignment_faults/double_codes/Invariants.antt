use Rattle.std.proofs.Common.{◌≡◌, length}
use Rattle.module_faults.specs.Least.{least_from}
use Rattle.module_faults.specs.Locals.{double_codes}
use Rattle.module_faults.specs.Met.{no_codes}
use Rattle.module_faults.proofs.assignment_faults.double_codes.Given as goal

abbrev pub invariant-loop-rest : goal.invariant-loop-rest
invariant-loop-rest l = least_from l.least.found (double_codes l.errors l.seen l.rest) ≡ least_from l.fn.least.found (double_codes l.errors no_codes l.assignments)

abbrev pub decreases-loop-rest : goal.decreases-loop-rest
decreases-loop-rest l = length l.rest
