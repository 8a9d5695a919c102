use Rattle.ber_faults.proofs.FirstFaults.{first_is_given}
use Rattle.ber_faults.proofs.laws.first_is_given.Goals as goal

pub returns : goal.returns
returns c = first_is_given
