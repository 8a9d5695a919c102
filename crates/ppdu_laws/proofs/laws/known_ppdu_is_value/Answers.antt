use Rattle.ppdu_laws.proofs.KnownValues as laws
use Rattle.ppdu_laws.proofs.laws.known_ppdu_is_value.Goals as goal

pub returns : goal.returns
returns c = laws.known_ppdu_is_value
