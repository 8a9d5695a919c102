use Rattle.module_reading.proofs.OneTables.{one_tables}
use Rattle.module_reading.proofs.laws.one_tables.Goals as goal

pub returns : goal.returns
returns c = one_tables
