use Rattle.end_wire.proofs.WireLaws.{written_first}
use Rattle.end_wire.proofs.laws.written_is_first.Goals as goal

pub returns : goal.returns
returns c = λ tables apdu more readable w. written_first tables readable apdu w more
