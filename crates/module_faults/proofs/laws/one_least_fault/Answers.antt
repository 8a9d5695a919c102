use Rattle.module_faults.proofs.OneFault.{one_least}
use Rattle.module_faults.proofs.laws.one_least_fault.Goals as goal

pub returns : goal.returns
returns c = one_least
