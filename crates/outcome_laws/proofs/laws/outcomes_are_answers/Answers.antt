use Rattle.outcome_laws.proofs.Answering.{outcomes-are-answers}
use Rattle.outcome_laws.proofs.Transferred.{transferred-answers}
use Rattle.outcome_laws.proofs.laws.outcomes_are_answers.Goals as goal

pub returns : goal.returns
returns c = record { answers = outcomes-are-answers; transferred = transferred-answers }
