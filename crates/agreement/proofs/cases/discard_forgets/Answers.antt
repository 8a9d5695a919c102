use Rattle.std.proofs.Common.{refl}
use Rattle.agreement.proofs.CaseRuns.{run-discarded}
use Rattle.agreement.proofs.cases.discard_forgets.Goals as goal

pub returns : goal.returns
returns c = record { run = run-discarded; outcome = λ faithful. (refl, refl, refl, refl, refl); arrivals = λ faithful. (refl, refl) }
