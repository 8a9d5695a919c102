use Rattle.association_reading.proofs.Beginnings.{beginnings_short}
use Rattle.association_reading.proofs.laws.beginnings_are_short.Goals as goal

pub returns : goal.returns
returns c = beginnings_short
