use Rattle.end_model.proofs.Connecting.{connections-act}
use Rattle.end_model.proofs.acting.connections_act.Goals as goal

pub returns : goal.returns
returns c = record { rows = connections-act }
