use Rattle.ber_spelling.proofs.WiderLimits.{wider_is_long}
use Rattle.ber_spelling.proofs.laws.wider_is_long.Goals as goal

pub returns : goal.returns
returns c = wider_is_long
