use Rattle.association_reading.proofs.Associating.{associations}
use Rattle.association_reading.proofs.laws.associations_are_read_back.Goals as goal

pub returns : goal.returns
returns c = associations
