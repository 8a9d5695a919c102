use Rattle.end_model.proofs.Faultless.{answers-may_be_taken}
use Rattle.end_model.proofs.takings.answers_may_be_taken.Goals as goal

pub returns : goal.returns
returns c = record { rows = answers-may_be_taken }
