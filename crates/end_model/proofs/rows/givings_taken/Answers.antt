use Rattle.std.proofs.Common.{refl}
use Rattle.end_model.proofs.rows.givings_taken.Goals as goal

pub returns : goal.returns
returns c = record { rows = record { give = λ tokens free base body. refl } }
