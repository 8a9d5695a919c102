use Rattle.std.proofs.Common.{refl}
use Rattle.agreement.proofs.CaseRuns.{run-late_result, run-late_error}
use Rattle.agreement.proofs.cases.rejects_tell_their_problem.Goals as goal

pub returns : goal.returns
returns c =
    record {
      run_result = run-late_result;
      result = λ faithful. (refl, refl);
      run_error = run-late_error;
      error = λ faithful. (refl, refl);
    }
