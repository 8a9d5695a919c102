use Rattle.std.proofs.Common.{◌≡◌, [], length}
use Rattle.module_faults.specs.Least.{least_from}
use Rattle.module_faults.specs.Locals.{item_faults}
use Rattle.module_faults.proofs.locals.items.Given as goal

abbrev pub invariant-loop-rest : goal.invariant-loop-rest
invariant-loop-rest l = least_from l.least.found (item_faults l.names l.numbers.keys l.rest) ≡ least_from l.fn.least.found (item_faults [] [] l.items)

abbrev pub decreases-loop-rest : goal.decreases-loop-rest
decreases-loop-rest l = length l.rest
