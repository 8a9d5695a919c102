use Rattle.said_takings.proofs.Takings.{direct-takes_rightly}
use Rattle.said_takings.proofs.laws.direct_ends_take_rightly.Goals as goal

pub returns : goal.returns
returns c = record { law = direct-takes_rightly }
