use Rattle.operation_notation.proofs.OneFault.{one_fault}
use Rattle.operation_notation.proofs.laws.one_fault.Goals as goal

pub returns : goal.returns
returns c = one_fault
