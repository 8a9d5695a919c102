use Rattle.ber_spelling.proofs.FirstFaults.{fault_is_first}
use Rattle.ber_spelling.proofs.laws.fault_is_first.Goals as goal

pub returns : goal.returns
returns c = fault_is_first
