use Rattle.module_compiler.proofs.Tabled.{has_tables}
use Rattle.module_compiler.proofs.laws.faultless_have_tables.Goals as goal

pub returns : goal.returns
returns c = has_tables
