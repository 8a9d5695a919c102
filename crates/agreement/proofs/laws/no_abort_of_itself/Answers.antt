use Rattle.agreement.proofs.ByTransfers.{all-no_abort}
use Rattle.agreement.proofs.laws.no_abort_of_itself.Goals as goal

pub returns : goal.returns
returns c = record { law = all-no_abort }
