use Rattle.tpkt.proofs.StreamLaws.{one_split}
use Rattle.tpkt.proofs.laws.one_split.Goals as goal

pub returns : goal.returns
returns c = one_split
