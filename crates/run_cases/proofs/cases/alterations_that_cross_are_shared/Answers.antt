use Rattle.std.proofs.Common.{refl}
use Rattle.run_cases.proofs.cases.alterations_that_cross_are_shared.Goals as goal

pub returns : goal.returns
returns c = record { shared = refl; read = (refl, refl) }
