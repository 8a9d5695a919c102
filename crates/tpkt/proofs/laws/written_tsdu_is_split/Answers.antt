use Rattle.tpkt.proofs.WrittenLaws.{tsdu_split}
use Rattle.tpkt.proofs.laws.written_tsdu_is_split.Goals as goal

pub returns : goal.returns
returns c = tsdu_split
