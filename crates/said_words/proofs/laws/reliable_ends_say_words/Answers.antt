use Rattle.said_words.proofs.TransferWorlds.{reliable-says}
use Rattle.said_words.proofs.laws.reliable_ends_say_words.Goals as goal

pub returns : goal.returns
returns c = record { law = reliable-says }
