use Rattle.acse.proofs.AcseLaws as laws
use Rattle.acse.proofs.laws.acse_fault_is_first.Goals as goal

pub returns : goal.returns
returns c = laws.acse_fault_is_first
