use Rattle.fixed_tables.proofs.WholeLaws as laws
use Rattle.fixed_tables.proofs.laws.whole_is_spelled.Goals as goal

pub returns : goal.returns
returns c = laws.whole_is_spelled
