use Rattle.packed_faults.proofs.FirstFaults.{given_is_first}
use Rattle.packed_faults.proofs.laws.given_is_first.Goals as goal

pub returns : goal.returns
returns c = given_is_first
