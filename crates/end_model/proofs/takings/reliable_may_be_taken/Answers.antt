use Rattle.end_model.proofs.Faultless.{reliable-may_be_taken}
use Rattle.end_model.proofs.takings.reliable_may_be_taken.Goals as goal

pub returns : goal.returns
returns c = record { rows = reliable-may_be_taken }
