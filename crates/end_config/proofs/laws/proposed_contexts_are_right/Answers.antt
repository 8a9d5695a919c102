use Rattle.end_config.proofs.Proposes.{proposes-rightly}
use Rattle.end_config.proofs.laws.proposed_contexts_are_right.Goals as goal

pub returns : goal.returns
returns c = proposes-rightly
