use Rattle.std.proofs.Common.{refl, sym, true≢false}
use Rattle.agreement.proofs.CaseRuns.{run-accepted_known}
use Rattle.agreement.proofs.cases.unknown_syntax_declined.Goals as goal

pub returns : goal.returns
returns c =
    record {
      run = run-accepted_known;
      outcome = λ faithful. (refl, refl);
      declined = λ faithful choice. true≢false (sym choice.is_known.0);
    }
