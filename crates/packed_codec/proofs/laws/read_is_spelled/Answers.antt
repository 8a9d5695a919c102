use Rattle.packed_codec.proofs.WholeValues.{read_is_spelled}
use Rattle.packed_codec.proofs.laws.read_is_spelled.Goals as goal

pub returns : goal.returns
returns c = read_is_spelled
