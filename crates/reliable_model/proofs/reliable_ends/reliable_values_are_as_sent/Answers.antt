use Rattle.reliable_model.proofs.Laws.{reliable-as_sent}
use Rattle.reliable_model.proofs.reliable_ends.reliable_values_are_as_sent.Goals as goal

pub returns : goal.returns
returns c = record { law = reliable-as_sent }
