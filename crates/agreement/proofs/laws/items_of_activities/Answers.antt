use Rattle.agreement.proofs.ByTransfers.{all-no_abort}
use Rattle.agreement.proofs.Items.{all-items}
use Rattle.agreement.proofs.laws.items_of_activities.Goals as goal

pub returns : goal.returns
returns c = record { law = all-items all-no_abort }
