use Rattle.ber_spelling.proofs.WholeValues.{fault_stays}
use Rattle.ber_spelling.proofs.laws.fault_stays.Goals as goal

pub returns : goal.returns
returns c = fault_stays
