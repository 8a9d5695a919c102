use Rattle.reliable_model.proofs.Laws.{reliable-one_holder}
use Rattle.reliable_model.proofs.reliable_ends.reliable_turn_has_one_holder.Goals as goal

pub returns : goal.returns
returns c = record { law = reliable-one_holder }
