use Rattle.tpkt.proofs.UnitLaws.{unit_found}
use Rattle.tpkt.proofs.laws.unit_is_spelled.Goals as goal

pub returns : goal.returns
returns c = unit_found
