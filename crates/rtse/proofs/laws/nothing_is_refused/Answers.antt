use Rattle.rtse.proofs.Exchanges.{nothing_refused}
use Rattle.rtse.proofs.laws.nothing_is_refused.Goals as goal

pub returns : goal.returns
returns c = record { law = nothing_refused }
