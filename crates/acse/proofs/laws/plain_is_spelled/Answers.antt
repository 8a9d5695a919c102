use Rattle.acse.proofs.PlainLaws as laws
use Rattle.acse.proofs.laws.plain_is_spelled.Goals as goal

pub returns : goal.returns
returns c = laws.plain_is_spelled
