use Rattle.std.proofs.Common.{refl}
use Rattle.agreement.proofs.CaseRuns.{run-recovery_broken}
use Rattle.agreement.proofs.cases.recovery_that_breaks.Goals as goal

pub returns : goal.returns
returns c = record { run = run-recovery_broken; outcome = λ faithful. (refl, refl, refl, refl, refl) }
