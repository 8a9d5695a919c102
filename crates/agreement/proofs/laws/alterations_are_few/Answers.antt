use Rattle.agreement.proofs.Few.{alterations-few}
use Rattle.agreement.proofs.laws.alterations_are_few.Goals as goal

pub returns : goal.returns
returns c = record { law = alterations-few }
