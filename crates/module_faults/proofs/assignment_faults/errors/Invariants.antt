use Rattle.std.proofs.Common.{◌≡◌, length}
use Rattle.module_faults.specs.Least.{least_from}
use Rattle.module_faults.specs.Locals.{no_error, names_faults}
use Rattle.module_faults.proofs.assignment_faults.errors.Given as goal

abbrev pub invariant-loop-rest : goal.invariant-loop-rest
invariant-loop-rest l = least_from l.least.found (names_faults no_error l.names l.rest) ≡ least_from l.fn.least.found (names_faults no_error l.names l.used)

abbrev pub decreases-loop-rest : goal.decreases-loop-rest
decreases-loop-rest l = length l.rest
