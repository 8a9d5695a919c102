use Rattle.apdu_spelling.proofs.Identifiers.{heads_have_identifiers}
use Rattle.apdu_spelling.proofs.laws.heads_have_identifiers.Goals as goal

pub returns : goal.returns
returns c = heads_have_identifiers
