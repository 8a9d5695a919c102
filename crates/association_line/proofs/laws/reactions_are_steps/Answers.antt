use Rattle.association_line.proofs.Reactions.{reactions_are_steps}
use Rattle.association_line.proofs.laws.reactions_are_steps.Goals as goal

pub returns : goal.returns
returns c = record { law = reactions_are_steps }
