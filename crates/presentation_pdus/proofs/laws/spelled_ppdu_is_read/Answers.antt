use Rattle.presentation_pdus.proofs.UnitLaws as laws
use Rattle.presentation_pdus.proofs.laws.spelled_ppdu_is_read.Goals as goal

pub returns : goal.returns
returns c = laws.spelled_ppdu_is_read
