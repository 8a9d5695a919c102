use Rattle.packed_faults.proofs.FirstFaults.{short_exactly}
use Rattle.packed_faults.proofs.laws.short_exactly.Goals as goal

pub returns : goal.returns
returns c = short_exactly
