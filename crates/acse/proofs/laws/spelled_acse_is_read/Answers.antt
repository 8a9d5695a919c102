use Rattle.acse.proofs.AcseLaws as laws
use Rattle.acse.proofs.laws.spelled_acse_is_read.Goals as goal

pub returns : goal.returns
returns c = laws.spelled_acse_is_read
