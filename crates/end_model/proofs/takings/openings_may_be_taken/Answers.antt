use Rattle.end_model.proofs.FaultlessOthers.{openings-may_be_taken}
use Rattle.end_model.proofs.takings.openings_may_be_taken.Goals as goal

pub returns : goal.returns
returns c = record { rows = openings-may_be_taken }
