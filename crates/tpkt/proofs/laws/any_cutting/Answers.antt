use Rattle.tpkt.proofs.StreamLaws.{any_cut}
use Rattle.tpkt.proofs.laws.any_cutting.Goals as goal

pub returns : goal.returns
returns c = any_cut
