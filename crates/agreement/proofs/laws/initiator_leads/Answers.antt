use Rattle.agreement.proofs.ByTransfers.{initiator-leads}
use Rattle.agreement.proofs.laws.initiator_leads.Goals as goal

pub returns : goal.returns
returns c = record { law = initiator-leads }
