use Rattle.fixed_tables.proofs.WholeLaws as laws
use Rattle.fixed_tables.proofs.laws.spelled_is_whole.Goals as goal

pub returns : goal.returns
returns c = laws.spelled_is_whole
