use Rattle.end_model.proofs.Alters.{alter-direct_acts, alter-reliable_acts}
use Rattle.end_model.proofs.acting.alters_act.Goals as goal

pub returns : goal.returns
returns c = record { rows = record { direct = alter-direct_acts; reliable = alter-reliable_acts } }
