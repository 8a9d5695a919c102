use Rattle.agreement.proofs.Outcomes.{one-outcome}
use Rattle.agreement.proofs.laws.one_outcome.Goals as goal

pub returns : goal.returns
returns c = record { law = one-outcome }
