use Rattle.packed_codec.proofs.WholeValues.{written_is_read}
use Rattle.packed_codec.proofs.laws.written_is_read.Goals as goal

pub returns : goal.returns
returns c = written_is_read
