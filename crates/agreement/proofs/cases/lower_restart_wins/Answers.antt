use Rattle.std.proofs.Common.{refl}
use Rattle.agreement.proofs.CaseRuns.{run-lower_wins}
use Rattle.agreement.proofs.cases.lower_restart_wins.Goals as goal

pub returns : goal.returns
returns c = record { run = run-lower_wins; outcome = λ faithful. (refl, refl, refl, refl, refl, refl) }
