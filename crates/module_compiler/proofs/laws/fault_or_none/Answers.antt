use Rattle.module_compiler.proofs.Deciding as deciding
use Rattle.module_compiler.proofs.Least.{none_or_fault}
use Rattle.module_compiler.proofs.laws.fault_or_none.Goals as goal

pub returns : goal.returns
returns c = record { either = deciding.fault_or_none; never_both = none_or_fault }
