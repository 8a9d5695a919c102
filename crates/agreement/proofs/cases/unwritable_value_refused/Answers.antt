use Rattle.std.proofs.Common.{sym, true≢false}
use Rattle.agreement.proofs.CaseRuns.{run-wide_opening}
use Rattle.agreement.proofs.cases.unwritable_value_refused.Goals as goal

pub returns : goal.returns
returns c =
    record {
      run = run-wide_opening;
      refused = λ faithful may. true≢false (sym may.is_writable);
    }
