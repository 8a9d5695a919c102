use Rattle.agreement.proofs.ByTransfers.{all-holder}
use Rattle.agreement.proofs.laws.one_holder.Goals as goal

pub returns : goal.returns
returns c = record { law = all-holder }
