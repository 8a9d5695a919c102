use Rattle.std.proofs.Common.{refl}
use Rattle.agreement.proofs.CaseRuns.{run-tie_won}
use Rattle.agreement.proofs.cases.initiator_wins_a_tie.Goals as goal

pub returns : goal.returns
returns c = record { run = run-tie_won; outcome = λ faithful. (refl, refl, refl, refl, refl, refl) }
