use Rattle.end_model.proofs.Breaking.{broken-seen}
use Rattle.end_model.proofs.rows.breaks.Goals as goal

pub returns : goal.returns
returns c = record { rows = record { breaks = broken-seen } }
