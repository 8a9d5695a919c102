use Rattle.ber_faults.proofs.WorkedFaults.{mark_passes_the_limit}
use Rattle.ber_faults.proofs.examples.mark_passes_the_limit.Goals as goal

pub returns : goal.returns
returns c = mark_passes_the_limit
