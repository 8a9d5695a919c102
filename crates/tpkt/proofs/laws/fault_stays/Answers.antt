use Rattle.tpkt.proofs.UnitLaws.{unit_stays}
use Rattle.tpkt.proofs.laws.fault_stays.Goals as goal

pub returns : goal.returns
returns c = unit_stays
