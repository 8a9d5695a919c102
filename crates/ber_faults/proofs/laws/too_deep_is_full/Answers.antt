use Rattle.ber_faults.proofs.FirstFaults.{too_deep_is_full}
use Rattle.ber_faults.proofs.laws.too_deep_is_full.Goals as goal

pub returns : goal.returns
returns c = too_deep_is_full
