use Rattle.std.proofs.Common.{refl}
use Rattle.agreement.proofs.CaseRuns.{run-collision}
use Rattle.agreement.proofs.cases.alterations_collide.Goals as goal

pub returns : goal.returns
returns c = record { run = run-collision; outcome = λ faithful. (refl, refl, refl, refl) }
