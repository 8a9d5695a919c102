use Rattle.std.proofs.Common.{refl}
use Rattle.agreement.proofs.CaseRuns.{run-completed_resumed}
use Rattle.agreement.proofs.cases.completed_activity_resumed.Goals as goal

pub returns : goal.returns
returns c = record { run = run-completed_resumed; outcome = λ faithful. (refl, refl, refl); arrivals = λ faithful. (refl, refl) }
