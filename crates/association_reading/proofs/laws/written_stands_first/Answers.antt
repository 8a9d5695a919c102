use Rattle.association_reading.proofs.First.{stands_first}
use Rattle.association_reading.proofs.laws.written_stands_first.Goals as goal

pub returns : goal.returns
returns c = stands_first
