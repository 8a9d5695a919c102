use Rattle.said_takings.proofs.Transfers.{reliable-takes_rightly}
use Rattle.said_takings.proofs.laws.reliable_ends_take_rightly.Goals as goal

pub returns : goal.returns
returns c = record { law = reliable-takes_rightly }
