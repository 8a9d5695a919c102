use Rattle.association_reading.proofs.Meant.{data_words}
use Rattle.association_reading.proofs.laws.data_are_read_back.Goals as goal

pub returns : goal.returns
returns c = data_words
