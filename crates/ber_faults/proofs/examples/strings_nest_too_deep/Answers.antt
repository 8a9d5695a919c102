use Rattle.ber_faults.proofs.WorkedFaults.{strings_nest_too_deep}
use Rattle.ber_faults.proofs.examples.strings_nest_too_deep.Goals as goal

pub returns : goal.returns
returns c = strings_nest_too_deep
