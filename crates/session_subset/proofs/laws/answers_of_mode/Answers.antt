use Rattle.session_subset.proofs.TurnLaws.{answers_of_mode}
use Rattle.session_subset.proofs.laws.answers_of_mode.Goals as goal

pub returns : goal.returns
returns c = answers_of_mode
