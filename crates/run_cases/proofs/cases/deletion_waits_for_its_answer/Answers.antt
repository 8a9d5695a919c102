use Rattle.std.proofs.Common.{refl}
use Rattle.run_cases.proofs.cases.deletion_waits_for_its_answer.Goals as goal

pub returns : goal.returns
returns c = record { pairs = (refl, refl); shared = refl; dropped = refl }
