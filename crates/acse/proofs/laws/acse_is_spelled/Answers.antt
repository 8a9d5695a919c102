use Rattle.acse.proofs.AcseLaws as laws
use Rattle.acse.proofs.laws.acse_is_spelled.Goals as goal

pub returns : goal.returns
returns c = laws.acse_is_spelled
