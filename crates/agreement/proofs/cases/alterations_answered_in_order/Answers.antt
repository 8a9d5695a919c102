use Rattle.std.proofs.Common.{refl}
use Rattle.agreement.proofs.CaseRuns.{run-two_answered}
use Rattle.agreement.proofs.cases.alterations_answered_in_order.Goals as goal

pub returns : goal.returns
returns c =
    record {
      run = run-two_answered;
      first = λ faithful. (refl, refl);
      outcome = λ faithful. (refl, refl, refl, refl);
    }
