use Rattle.std.proofs.Common.{refl}
use Rattle.agreement.proofs.CaseRuns.{run-resumed_from_mark}
use Rattle.agreement.proofs.cases.resumption_from_a_mark.Goals as goal

pub returns : goal.returns
returns c = record { run = run-resumed_from_mark; outcome = λ faithful. (refl, refl, refl, refl); arrivals = λ faithful. (refl, refl) }
