use Rattle.ber_spelling.proofs.Limits.{short_is_within}
use Rattle.ber_spelling.proofs.laws.short_is_within.Goals as goal

pub returns : goal.returns
returns c = short_is_within
