use Rattle.std.proofs.Common.{◌≡◌, ◌+◌, length}
use Rattle.module_faults.specs.Least.{least_from}
use Rattle.module_faults.specs.Standings.{says}
use Rattle.module_faults.specs.Faults.{first_recursive}
use Rattle.module_faults.proofs.type_faults.first_recursive.Given as goal

abbrev pub invariant-loop-rest : goal.invariant-loop-rest
invariant-loop-rest l = record {
  found : least_from l.least.found (first_recursive (says l.standings) l.place l.rest) ≡ least_from l.fn.least.found (first_recursive (says l.standings) 0 l.assignments);
  count : l.place + length l.rest ≡ length l.assignments;
}

abbrev pub decreases-loop-rest : goal.decreases-loop-rest
decreases-loop-rest l = length l.rest
