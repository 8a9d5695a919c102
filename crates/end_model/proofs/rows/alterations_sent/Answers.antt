use Rattle.end_model.proofs.Marks.{alter-sent}
use Rattle.end_model.proofs.rows.alterations_sent.Goals as goal

pub returns : goal.returns
returns c = record { rows = record { alter = alter-sent } }
