use Rattle.tpkt.proofs.StreamLaws.{split_read}
use Rattle.tpkt.proofs.laws.split_is_read.Goals as goal

pub returns : goal.returns
returns c = split_read
