use Rattle.ber_faults.proofs.FirstFaults.{one_first}
use Rattle.ber_faults.proofs.laws.one_first.Goals as goal

pub returns : goal.returns
returns c = one_first
