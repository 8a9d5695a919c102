use Rattle.ber_faults.proofs.WorkedFaults.{default_is_written}
use Rattle.ber_faults.proofs.examples.default_is_written.Goals as goal

pub returns : goal.returns
returns c = default_is_written
