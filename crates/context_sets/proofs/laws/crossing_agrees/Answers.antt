use Rattle.context_sets.proofs.Crossing.{altered-altered}
use Rattle.context_sets.proofs.laws.crossing_agrees.Goals as goal

pub returns : goal.returns
returns c = altered-altered
