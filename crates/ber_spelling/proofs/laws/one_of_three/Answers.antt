use Rattle.ber_spelling.proofs.WholeValues.{one_of_three}
use Rattle.ber_spelling.proofs.laws.one_of_three.Goals as goal

pub returns : goal.returns
returns c = one_of_three
