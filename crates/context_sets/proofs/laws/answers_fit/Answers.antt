use Rattle.context_sets.proofs.Fitting.{answers_fit}
use Rattle.context_sets.proofs.laws.answers_fit.Goals as goal

pub returns : goal.returns
returns c = answers_fit
