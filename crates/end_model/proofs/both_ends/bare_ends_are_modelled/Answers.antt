use Rattle.end_model.proofs.BareTaking.{bare-modelled, bare-takes}
use Rattle.end_model.proofs.Plain.{has-codec}
use Rattle.end_model.proofs.both_ends.bare_ends_are_modelled.Goals as goal

pub returns : goal.returns
returns c = record { codec = has-codec; modelled = bare-modelled; takes = bare-takes }
