use Rattle.module_reading.proofs.TablesOrFault.{tables_or_fault}
use Rattle.module_reading.proofs.laws.tables_or_fault.Goals as goal

pub returns : goal.returns
returns c = tables_or_fault
