use Rattle.association_reading.proofs.Meant.{session_words}
use Rattle.association_reading.proofs.laws.session_words_are_read_back.Goals as goal

pub returns : goal.returns
returns c = session_words
