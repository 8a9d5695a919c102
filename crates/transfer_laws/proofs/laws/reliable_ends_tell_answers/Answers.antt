use Rattle.transfer_laws.proofs.Premises as laws
use Rattle.transfer_laws.proofs.laws.reliable_ends_tell_answers.Goals as goal

pub returns : goal.returns
returns c = record { law = laws.ends-answers }
