use Rattle.packed_codec.proofs.WholeValues.{none_begins}
use Rattle.packed_codec.proofs.laws.none_begins.Goals as goal

pub returns : goal.returns
returns c = none_begins
