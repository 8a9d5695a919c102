use Rattle.ber_spelling.proofs.UnusedBits.{unused_bits_are_cleared}
use Rattle.ber_spelling.proofs.laws.unused_bits_are_cleared.Goals as goal

pub returns : goal.returns
returns c = unused_bits_are_cleared
