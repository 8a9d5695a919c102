use Rattle.operation_notation.proofs.OneFault.{module_or_fault, not_both}
use Rattle.operation_notation.proofs.laws.module_or_fault.Goals as goal

pub returns-clause-either : goal.returns-clause-either
returns-clause-either c = module_or_fault

pub returns-clause-never_both : goal.returns-clause-never_both
returns-clause-never_both c = not_both
