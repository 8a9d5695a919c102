use Rattle.tpkt.proofs.StreamLaws.{one_of_three}
use Rattle.tpkt.proofs.laws.one_of_three.Goals as goal

pub returns : goal.returns
returns c = one_of_three
