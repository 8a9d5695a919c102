use Rattle.reliable_model.proofs.OwnRows.{own-rows}
use Rattle.reliable_model.proofs.own_messages.own_messages_act.Goals as goal

pub returns : goal.returns
returns c = record { rows = own-rows }
