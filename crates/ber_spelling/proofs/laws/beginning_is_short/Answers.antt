use Rattle.ber_spelling.proofs.WholeValues.{beginning_is_short}
use Rattle.ber_spelling.proofs.laws.beginning_is_short.Goals as goal

pub returns : goal.returns
returns c = beginning_is_short
