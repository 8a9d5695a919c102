use Rattle.module_compiler.proofs.Least as least
use Rattle.module_compiler.proofs.laws.refused_are_least.Goals as goal

pub returns : goal.returns
returns c = least.refused_are_least
