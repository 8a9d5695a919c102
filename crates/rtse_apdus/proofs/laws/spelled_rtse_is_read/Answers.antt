use Rattle.rtse_apdus.proofs.RtseLaws as laws
use Rattle.rtse_apdus.proofs.laws.spelled_rtse_is_read.Goals as goal

pub returns : goal.returns
returns c = laws.spelled_rtse_is_read
