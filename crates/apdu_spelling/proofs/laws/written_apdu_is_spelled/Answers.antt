use Rattle.apdu_spelling.proofs.Written.{written_spelled}
use Rattle.apdu_spelling.proofs.laws.written_apdu_is_spelled.Goals as goal

pub returns : goal.returns
returns c = λ tables syntax a readable writable. written_spelled tables readable syntax a writable
