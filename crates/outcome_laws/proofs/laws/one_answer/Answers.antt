use Rattle.outcome_laws.proofs.Worked.{one-answer}
use Rattle.outcome_laws.proofs.laws.one_answer.Goals as goal

pub returns : goal.returns
returns c = record { worked = one-answer }
