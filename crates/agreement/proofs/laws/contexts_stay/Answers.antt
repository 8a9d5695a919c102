use Rattle.agreement.proofs.ByTransfers.{all-no_abort}
use Rattle.agreement.proofs.StaysWorlds.{all-stay}
use Rattle.agreement.proofs.laws.contexts_stay.Goals as goal

pub returns : goal.returns
returns c = record { law = all-stay all-no_abort }
