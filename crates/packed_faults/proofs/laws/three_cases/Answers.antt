use Rattle.packed_faults.proofs.FirstFaults.{three_cases}
use Rattle.packed_faults.proofs.laws.three_cases.Goals as goal

pub returns : goal.returns
returns c = three_cases
