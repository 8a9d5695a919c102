use Rattle.std.proofs.Common.{refl}
use Rattle.run_cases.proofs.cases.transfer_arrives_once.Goals as goal

pub returns : goal.returns
returns c = record { arrived = (refl, refl); none = refl }
