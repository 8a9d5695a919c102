use Rattle.packed_codec.proofs.Wider.{wider_stays}
use Rattle.packed_codec.proofs.laws.wider_stays.Goals as goal

pub returns : goal.returns
returns c = wider_stays
