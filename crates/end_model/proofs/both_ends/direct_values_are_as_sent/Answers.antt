use Rattle.end_model.proofs.DirectLaws.{direct-as_sent}
use Rattle.end_model.proofs.both_ends.direct_values_are_as_sent.Goals as goal

pub returns : goal.returns
returns c = record { law = direct-as_sent }
