use Rattle.std.proofs.Common.{refl}
use Rattle.agreement.proofs.CaseRuns.{run-resumed_from_nothing}
use Rattle.agreement.proofs.cases.resumption_from_nothing.Goals as goal

pub returns : goal.returns
returns c = record { run = run-resumed_from_nothing; outcome = λ faithful. (refl, refl, refl, refl); arrivals = λ faithful. (refl, refl); items = λ faithful. (refl, refl) }
