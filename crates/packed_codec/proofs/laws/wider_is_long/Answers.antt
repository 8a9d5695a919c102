use Rattle.packed_codec.proofs.Wider.{wider_is_long}
use Rattle.packed_codec.proofs.laws.wider_is_long.Goals as goal

pub returns : goal.returns
returns c = wider_is_long
