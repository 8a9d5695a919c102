use Rattle.ber_laws.proofs.UnusedInside.{unused_bits_may_be_any}
use Rattle.ber_laws.proofs.laws.unused_bits_may_be_any.Goals as goal

pub returns : goal.returns
returns c = unused_bits_may_be_any
