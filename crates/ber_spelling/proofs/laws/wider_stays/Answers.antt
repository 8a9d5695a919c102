use Rattle.ber_spelling.proofs.WiderLimits.{wider_stays}
use Rattle.ber_spelling.proofs.laws.wider_stays.Goals as goal

pub returns : goal.returns
returns c = wider_stays
