use Rattle.std.proofs.Common.{refl}
use Rattle.run_cases.proofs.cases.value_has_the_pair_of_its_sending.Goals as goal

pub returns : goal.returns
returns c = record { pairs = (refl, refl); shared = refl; newest = refl }
