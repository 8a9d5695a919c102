use Rattle.packed_faults.proofs.WorkedFaults.{size_is_large}
use Rattle.packed_faults.proofs.examples.size_is_large.Goals as goal

pub returns : goal.returns
returns c = size_is_large
