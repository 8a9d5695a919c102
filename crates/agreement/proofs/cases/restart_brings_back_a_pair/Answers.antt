use Rattle.std.proofs.Common.{refl}
use Rattle.agreement.proofs.CaseRuns.{run-read_by_mark}
use Rattle.agreement.proofs.cases.restart_brings_back_a_pair.Goals as goal

pub returns : goal.returns
returns c = record { run = run-read_by_mark; outcome = λ faithful. (refl, refl, refl); arrivals = λ faithful. (refl, refl) }
