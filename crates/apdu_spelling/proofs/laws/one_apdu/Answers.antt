use Rattle.apdu_spelling.proofs.OneHead.{one_apdu}
use Rattle.apdu_spelling.proofs.laws.one_apdu.Goals as goal

pub returns : goal.returns
returns c = λ tables syntax a b text readable p q. one_apdu syntax tables readable.types a b text p q
