use Rattle.end_wire.proofs.FirstLaws.{whole_first}
use Rattle.end_wire.proofs.laws.wire_is_first.Goals as goal

pub returns : goal.returns
returns c = λ tables held message octets more w. whole_first octets more w.whole
