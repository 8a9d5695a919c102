use Rattle.ber_faults.proofs.WorkedFaults.{part_comes_twice_in_another_form}
use Rattle.ber_faults.proofs.examples.part_comes_twice_in_another_form.Goals as goal

pub returns : goal.returns
returns c = part_comes_twice_in_another_form
