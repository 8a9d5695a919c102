use Rattle.packed_codec.proofs.WholeValues.{beginning_is_short}
use Rattle.packed_codec.proofs.laws.beginning_is_short.Goals as goal

pub returns : goal.returns
returns c = beginning_is_short
