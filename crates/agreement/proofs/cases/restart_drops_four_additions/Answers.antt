use Rattle.std.proofs.Common.{refl, true≢false}
use Rattle.agreement.proofs.CaseRuns.{run-four_lost, five}
use Rattle.agreement.proofs.cases.restart_drops_four_additions.Goals as goal

pub returns : goal.returns
returns c =
    record {
      run = run-four_lost;
      outcome = λ faithful. (refl, refl, refl, refl, refl);
      fifth = λ faithful may. five may.has_place;
      same = λ faithful may. true≢false may.once.0;
    }
