use Rattle.ber_spelling.proofs.WholeValues.{read_is_spelled}
use Rattle.ber_spelling.proofs.laws.read_is_spelled.Goals as goal

pub returns : goal.returns
returns c = read_is_spelled
