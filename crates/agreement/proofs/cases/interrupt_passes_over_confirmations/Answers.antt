use Rattle.std.proofs.Common.{refl}
use Rattle.agreement.proofs.CaseRuns.{run-interrupted}
use Rattle.agreement.proofs.cases.interrupt_passes_over_confirmations.Goals as goal

pub returns : goal.returns
returns c = record { run = run-interrupted; outcome = λ faithful. (refl, refl, refl, refl, refl) }
