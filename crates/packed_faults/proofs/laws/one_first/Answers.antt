use Rattle.packed_faults.proofs.FirstFaults.{one_first}
use Rattle.packed_faults.proofs.laws.one_first.Goals as goal

pub returns : goal.returns
returns c = one_first
