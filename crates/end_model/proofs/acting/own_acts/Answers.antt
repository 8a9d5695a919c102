use Rattle.end_model.proofs.OwnActs.{own-acts}
use Rattle.end_model.proofs.acting.own_acts.Goals as goal

pub returns : goal.returns
returns c = record { rows = own-acts }
