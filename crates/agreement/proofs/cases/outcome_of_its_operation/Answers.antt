use Rattle.std.proofs.Common.{refl, sym, true≢false}
use Rattle.agreement.proofs.CaseRuns.{run-answered_once}
use Rattle.agreement.proofs.cases.outcome_of_its_operation.Goals as goal

pub returns : goal.returns
returns c =
    record {
      run = run-answered_once;
      outcome = λ faithful. (refl, refl);
      refused = λ faithful may. true≢false (sym may.may_hand_in);
    }
