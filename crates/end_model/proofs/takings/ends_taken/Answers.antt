use Rattle.end_model.proofs.EndRows.{ends-taken}
use Rattle.end_model.proofs.takings.ends_taken.Goals as goal

pub returns : goal.returns
returns c = record { rows = ends-taken }
