use Rattle.end_model.proofs.FaultlessOthers.{data-may_be_taken}
use Rattle.end_model.proofs.takings.data_may_be_taken.Goals as goal

pub returns : goal.returns
returns c = record { rows = data-may_be_taken }
