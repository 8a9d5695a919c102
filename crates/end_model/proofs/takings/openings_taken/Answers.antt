use Rattle.end_model.proofs.Openings.{openings-taken}
use Rattle.end_model.proofs.takings.openings_taken.Goals as goal

pub returns : goal.returns
returns c = record { rows = openings-taken }
