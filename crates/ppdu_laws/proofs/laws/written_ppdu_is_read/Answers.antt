use Rattle.ppdu_laws.proofs.UnitsBack as laws
use Rattle.ppdu_laws.proofs.laws.written_ppdu_is_read.Goals as goal

pub returns : goal.returns
returns c = laws.written_ppdu_is_read
