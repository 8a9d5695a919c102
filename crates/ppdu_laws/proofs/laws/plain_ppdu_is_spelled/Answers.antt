use Rattle.ppdu_laws.proofs.UnitsBack as laws
use Rattle.ppdu_laws.proofs.laws.plain_ppdu_is_spelled.Goals as goal

pub returns : goal.returns
returns c = laws.plain_ppdu_is_spelled
