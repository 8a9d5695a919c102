use Rattle.said_words.proofs.Worlds.{direct-says}
use Rattle.said_words.proofs.laws.direct_ends_say_words.Goals as goal

pub returns : goal.returns
returns c = record { law = direct-says }
