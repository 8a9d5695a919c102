use Rattle.association_worlds.proofs.Said as said
use Rattle.association_worlds.proofs.laws.said_is_meant.Goals as goal

pub returns : goal.returns
returns c = record { law = said.said-meant c.session_words_are_read_back.ensures }
