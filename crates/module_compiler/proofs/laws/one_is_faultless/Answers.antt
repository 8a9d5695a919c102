use Rattle.module_compiler.proofs.Examples as examples
use Rattle.module_compiler.proofs.laws.one_is_faultless.Goals as goal

pub returns : goal.returns
returns c = examples.one_is_faultless
