use Rattle.agreement.proofs.Outcomes.{accepted-names_open}
use Rattle.agreement.proofs.laws.accepted_names_open.Goals as goal

pub returns : goal.returns
returns c = record { law = accepted-names_open }
