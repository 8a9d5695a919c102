use Rattle.std.proofs.Common.{◌≡◌, ◌+◌, length}
use Rattle.module_faults.specs.Least.{least_from}
use Rattle.module_faults.specs.Locals.{double_names}
use Rattle.module_faults.proofs.assignment_faults.double_names.Given as goal

abbrev pub invariant-loop-rest : goal.invariant-loop-rest
invariant-loop-rest l = record {
  found : least_from l.least.found (double_names l.names l.place l.rest) ≡ least_from l.fn.least.found (double_names l.names 0 l.names);
  count : l.place + length l.rest ≡ length l.names;
}

abbrev pub decreases-loop-rest : goal.decreases-loop-rest
decreases-loop-rest l = length l.rest
