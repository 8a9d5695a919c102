use Rattle.end_model.proofs.DirectLaws.{direct-one_holder}
use Rattle.end_model.proofs.both_ends.direct_turn_has_one_holder.Goals as goal

pub returns : goal.returns
returns c = record { law = direct-one_holder }
