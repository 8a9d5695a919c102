use Rattle.agreement.proofs.ByTransfers.{all-as_sent}
use Rattle.agreement.proofs.laws.taken_as_sent.Goals as goal

pub returns : goal.returns
returns c = record { law = all-as_sent }
