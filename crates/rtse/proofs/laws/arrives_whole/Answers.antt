use Rattle.rtse.proofs.Exchanges.{whole}
use Rattle.rtse.proofs.laws.arrives_whole.Goals as goal

pub returns : goal.returns
returns c = record { law = whole }
