use Rattle.packed_codec.proofs.WholeValues.{one_of_three}
use Rattle.packed_codec.proofs.laws.one_of_three.Goals as goal

pub returns : goal.returns
returns c = one_of_three
