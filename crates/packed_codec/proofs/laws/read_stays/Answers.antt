use Rattle.packed_codec.proofs.WholeValues.{read_stays}
use Rattle.packed_codec.proofs.laws.read_stays.Goals as goal

pub returns : goal.returns
returns c = read_stays
