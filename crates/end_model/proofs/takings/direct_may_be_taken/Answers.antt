use Rattle.end_model.proofs.Faultless.{direct-may_be_taken}
use Rattle.end_model.proofs.takings.direct_may_be_taken.Goals as goal

pub returns : goal.returns
returns c = record { rows = direct-may_be_taken }
