use Rattle.acse.proofs.PlainLaws as laws
use Rattle.acse.proofs.laws.written_acse_is_read.Goals as goal

pub returns : goal.returns
returns c = laws.written_acse_is_read
