use Rattle.ber_spelling.proofs.WholeValues.{spelled_is_read}
use Rattle.ber_spelling.proofs.laws.spelled_is_read.Goals as goal

pub returns : goal.returns
returns c = spelled_is_read
