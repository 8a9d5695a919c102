use Rattle.std.proofs.Common.{refl}
use Rattle.agreement.proofs.CaseRuns.{run-addition_dropped}
use Rattle.agreement.proofs.cases.restart_drops_an_addition.Goals as goal

pub returns : goal.returns
returns c = record { run = run-addition_dropped; outcome = λ faithful. (refl, refl, refl, refl, refl) }
