use Rattle.reliable_model.proofs.Laws.{reliable-modelled, reliable-takes}
use Rattle.reliable_model.proofs.reliable_ends.reliable_ends_are_modelled.Goals as goal

pub returns : goal.returns
returns c = record { modelled = reliable-modelled; takes = reliable-takes }
