use Rattle.packed_codec.proofs.WholeValues.{fault_is_first}
use Rattle.packed_codec.proofs.laws.fault_is_first.Goals as goal

pub returns : goal.returns
returns c = fault_is_first
