use Rattle.agreement.proofs.ByTransfers.{others-own}
use Rattle.agreement.proofs.laws.the_others_own.Goals as goal

pub returns : goal.returns
returns c = record { law = others-own }
