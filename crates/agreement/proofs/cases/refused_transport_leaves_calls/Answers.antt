use Rattle.std.proofs.Common.{refl}
use Rattle.agreement.proofs.CaseRuns.{run-withdrawn, run-refused_transport}
use Rattle.agreement.proofs.cases.refused_transport_leaves_calls.Goals as goal

pub returns : goal.returns
returns c =
    record {
      run_withdrawn = run-withdrawn;
      withdrawn = λ faithful. (refl, refl);
      run = run-refused_transport;
      outcome = λ faithful. (refl, refl);
    }
