use Rattle.end_model.proofs.TakenRows.{answers-taken}
use Rattle.end_model.proofs.takings.answers_taken.Goals as goal

pub returns : goal.returns
returns c = record { rows = answers-taken }
