use Rattle.ber_spelling.proofs.WholeValues.{read_stays}
use Rattle.ber_spelling.proofs.laws.read_stays.Goals as goal

pub returns : goal.returns
returns c = read_stays
