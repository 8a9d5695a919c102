use Rattle.ber_spelling.proofs.Wholes.{whole_is}
use Rattle.ber_spelling.proofs.Written.{written_spelled}
use Rattle.ber_spelling.proofs.laws.written_is_spelled.Goals as goal

pub returns : goal.returns
returns c = λ rows n v sound e. written_spelled whole_is rows sound n v e
