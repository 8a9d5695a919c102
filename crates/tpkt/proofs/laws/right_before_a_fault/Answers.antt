use Rattle.tpkt.proofs.UnitLaws.{right_before}
use Rattle.tpkt.proofs.laws.right_before_a_fault.Goals as goal

pub returns : goal.returns
returns c = right_before
