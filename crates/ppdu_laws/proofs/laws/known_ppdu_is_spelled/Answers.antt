use Rattle.ppdu_laws.proofs.KnownUnits as laws
use Rattle.ppdu_laws.proofs.laws.known_ppdu_is_spelled.Goals as goal

pub returns : goal.returns
returns c = laws.known_ppdu_is_spelled
