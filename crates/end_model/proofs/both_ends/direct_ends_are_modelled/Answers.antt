use Rattle.end_model.proofs.DirectLaws.{direct-modelled, direct-takes}
use Rattle.end_model.proofs.both_ends.direct_ends_are_modelled.Goals as goal

pub returns : goal.returns
returns c = record { modelled = direct-modelled; takes = direct-takes }
