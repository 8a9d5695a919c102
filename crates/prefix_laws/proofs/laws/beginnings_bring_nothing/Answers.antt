use Rattle.prefix_laws.proofs.Messages.{nothing-brought}
use Rattle.prefix_laws.proofs.laws.beginnings_bring_nothing.Goals as goal

pub returns : goal.returns
returns c = record { law = nothing-brought }
