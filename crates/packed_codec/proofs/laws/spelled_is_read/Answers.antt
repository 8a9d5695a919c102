use Rattle.packed_codec.proofs.WholeValues.{spelled_is_read}
use Rattle.packed_codec.proofs.laws.spelled_is_read.Goals as goal

pub returns : goal.returns
returns c = spelled_is_read
