use Rattle.transfer_laws.proofs.Premises as laws
use Rattle.transfer_laws.proofs.laws.reliable_ends_have_one_holder.Goals as goal

pub returns : goal.returns
returns c = record { law = laws.ends-one_holder }
