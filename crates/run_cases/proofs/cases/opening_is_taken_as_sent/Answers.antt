use Rattle.std.proofs.Common.{refl}
use Rattle.run_cases.proofs.cases.opening_is_taken_as_sent.Goals as goal

pub returns : goal.returns
returns c = record { read = (refl, refl); shared = refl; holder = (refl, refl) }
