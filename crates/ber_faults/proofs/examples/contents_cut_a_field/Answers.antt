use Rattle.ber_faults.proofs.WorkedFaults.{contents_cut_a_field}
use Rattle.ber_faults.proofs.examples.contents_cut_a_field.Goals as goal

pub returns : goal.returns
returns c = contents_cut_a_field
