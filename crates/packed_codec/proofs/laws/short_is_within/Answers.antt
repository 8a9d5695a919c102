use Rattle.packed_codec.proofs.Reach.{short_is_within}
use Rattle.packed_codec.proofs.laws.short_is_within.Goals as goal

pub returns : goal.returns
returns c = short_is_within
