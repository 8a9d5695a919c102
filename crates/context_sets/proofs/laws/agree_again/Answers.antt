use Rattle.context_sets.proofs.Agreeing.{agree_again}
use Rattle.context_sets.proofs.laws.agree_again.Goals as goal

pub returns : goal.returns
returns c = agree_again
