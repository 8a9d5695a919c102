use Rattle.association_line.proofs.One.{one-call}
use Rattle.association_line.proofs.laws.one_call.Goals as goal

pub returns : goal.returns
returns c = record { law = one-call }
