use Rattle.std.proofs.Common.{refl}
use Rattle.run_cases.proofs.cases.restarts_that_cross_leave_one_holder.Goals as goal

pub returns : goal.returns
returns c = record { holder = (refl, refl); shared = refl }
