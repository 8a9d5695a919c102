use Rattle.association_reading.proofs.Meant.{alterations}
use Rattle.association_reading.proofs.laws.alterations_are_read_back.Goals as goal

pub returns : goal.returns
returns c = alterations
