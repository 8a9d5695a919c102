use Rattle.agreement.proofs.ByTransfers.{arrive-whole}
use Rattle.agreement.proofs.laws.transfers_arrive_whole.Goals as goal

pub returns : goal.returns
returns c = record { law = arrive-whole }
