use Rattle.end_wire.proofs.FirstLaws.{beginning_short}
use Rattle.end_wire.proofs.laws.beginning_is_short.Goals as goal

pub returns : goal.returns
returns c = λ tables held message front back are w some. beginning_short front back are w.whole some
