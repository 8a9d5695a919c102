use Rattle.end_model.proofs.Requests.{opens-unseen, recovers-unseen}
use Rattle.end_model.proofs.acting.calls_unseen.Goals as goal

pub returns : goal.returns
returns c = record { rows = record { open_ = opens-unseen; recover = recovers-unseen } }
