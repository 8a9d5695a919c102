use Rattle.end_laws.proofs.Premises as laws
use Rattle.end_laws.proofs.laws.direct_turn_has_one_holder.Goals as goal

pub returns : goal.returns
returns c = record { law = laws.direct_one_holder }
