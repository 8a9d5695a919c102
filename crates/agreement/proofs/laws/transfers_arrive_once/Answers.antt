use Rattle.agreement.proofs.ByTransfers.{all-once}
use Rattle.agreement.proofs.laws.transfers_arrive_once.Goals as goal

pub returns : goal.returns
returns c = record { law = all-once }
