use Rattle.packed_codec.proofs.WholeValues.{fault_stays}
use Rattle.packed_codec.proofs.laws.fault_stays.Goals as goal

pub returns : goal.returns
returns c = fault_stays
