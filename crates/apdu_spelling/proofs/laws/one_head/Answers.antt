use Rattle.apdu_spelling.proofs.OneHead.{one_head}
use Rattle.apdu_spelling.proofs.laws.one_head.Goals as goal

pub returns : goal.returns
returns c = one_head
