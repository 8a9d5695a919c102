use Rattle.presentation_pdus.proofs.UnitLaws as laws
use Rattle.presentation_pdus.proofs.laws.ppdu_is_spelled.Goals as goal

pub returns : goal.returns
returns c = laws.ppdu_is_spelled
