use Rattle.agreement.proofs.ByTransfers.{invoked-once}
use Rattle.agreement.proofs.laws.invoked_once.Goals as goal

pub returns : goal.returns
returns c = record { law = invoked-once }
