use Rattle.rtse_apdus.proofs.RtseLaws as laws
use Rattle.rtse_apdus.proofs.laws.rtse_is_spelled.Goals as goal

pub returns : goal.returns
returns c = laws.rtse_is_spelled
