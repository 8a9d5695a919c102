use Rattle.association_reading.proofs.First.{units_first}
use Rattle.association_reading.proofs.laws.transport_units_stand_first.Goals as goal

pub returns : goal.returns
returns c = units_first
