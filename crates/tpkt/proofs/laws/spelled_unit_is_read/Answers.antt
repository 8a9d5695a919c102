use Rattle.tpkt.proofs.UnitLaws.{unit_again}
use Rattle.tpkt.proofs.laws.spelled_unit_is_read.Goals as goal

pub returns : goal.returns
returns c = unit_again
