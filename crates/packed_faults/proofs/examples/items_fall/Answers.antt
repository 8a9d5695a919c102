use Rattle.packed_faults.proofs.WorkedFaults.{items_fall}
use Rattle.packed_faults.proofs.examples.items_fall.Goals as goal

pub returns : goal.returns
returns c = items_fall
