use Rattle.packed_laws.proofs.Sizes.{packed-sized}
use Rattle.packed_laws.proofs.laws.packed_has_size.Goals as goal

pub returns : goal.returns
returns c = record { law = packed-sized }
