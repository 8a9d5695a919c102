use Rattle.std.proofs.Common.{refl}
use Rattle.agreement.proofs.CaseRuns.{run-giving_taken}
use Rattle.agreement.proofs.cases.giving_taken_before_a_break.Goals as goal

pub returns : goal.returns
returns c = record { run = run-giving_taken; outcome = λ faithful. (refl, refl, refl, refl) }
