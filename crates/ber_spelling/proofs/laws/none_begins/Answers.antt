use Rattle.ber_spelling.proofs.WholeValues.{none_begins}
use Rattle.ber_spelling.proofs.laws.none_begins.Goals as goal

pub returns : goal.returns
returns c = none_begins
