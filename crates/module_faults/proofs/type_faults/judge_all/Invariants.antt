use Rattle.std.proofs.Common.{◌≡◌, length}
use Rattle.module_faults.specs.Least.{least_from}
use Rattle.module_faults.specs.Standings.{says}
use Rattle.module_faults.specs.Facts.{env_of}
use Rattle.module_faults.specs.Faults.{bodies_show}
use Rattle.module_faults.proofs.type_faults.judge_all.Given as goal

abbrev pub invariant-loop-rest : goal.invariant-loop-rest
invariant-loop-rest l = least_from l.least.found (bodies_show (env_of l.facing.names.now (says l.facing.standings.now)) l.rest) ≡ least_from l.fn.least.found (bodies_show (env_of l.facing.names.now (says l.facing.standings.now)) l.facing.names.now)

abbrev pub decreases-loop-rest : goal.decreases-loop-rest
decreases-loop-rest l = length l.rest
