use Rattle.said_spellings.proofs.Messages.{said-carried}
use Rattle.said_spellings.proofs.laws.said_are_carried.Goals as goal

pub returns : goal.returns
returns c = record { law = said-carried }
