use Rattle.std.proofs.Common.{refl}
use Rattle.module_faults.specs.Standings.{says}
use Rattle.module_faults.specs.Faults.{first_recursive}
use Rattle.module_faults.proofs.Loops.{loop_end}
use Rattle.module_faults.proofs.type_faults.first_recursive.Goals as goal

pub returns-clause-found : goal.returns-clause-found
returns-clause-found c = loop_end (first_recursive (says c.args.standings.now) c.loop-rest.place) c.loop-rest.rest.now c.loop-rest.least.found _ c.in_default.len_below refl c.loop-rest.invariant.found
