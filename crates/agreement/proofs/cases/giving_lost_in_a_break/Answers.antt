use Rattle.std.proofs.Common.{refl}
use Rattle.agreement.proofs.CaseRuns.{run-giving_lost}
use Rattle.agreement.proofs.cases.giving_lost_in_a_break.Goals as goal

pub returns : goal.returns
returns c = record { run = run-giving_lost; outcome = λ faithful. (refl, refl, refl, refl) }
