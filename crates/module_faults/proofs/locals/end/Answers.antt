use Rattle.std.proofs.Common.{refl}
use Rattle.operation_notation.specs.TreeView.{parts_of as trees}
use Rattle.module_faults.specs.Locals.{end_faults}
use Rattle.module_faults.proofs.Loops.{loop_end}
use Rattle.module_faults.proofs.locals.end.Goals as goal

pub returns : goal.returns
returns c = loop_end (λ ps. end_faults c.loop-rest.left (trees ps)) c.loop-rest.rest.now c.loop-rest.least.found _ c.in_default.len_below refl c.loop-rest.invariant
