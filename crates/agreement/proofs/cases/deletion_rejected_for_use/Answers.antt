use Rattle.std.proofs.Common.{refl}
use Rattle.agreement.proofs.CaseRuns.{run-use_rejected}
use Rattle.agreement.proofs.cases.deletion_rejected_for_use.Goals as goal

pub returns : goal.returns
returns c = record { run = run-use_rejected; outcome = λ faithful. (refl, refl, refl, refl) }
