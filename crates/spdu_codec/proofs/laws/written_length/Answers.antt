use Rattle.spdu_codec.proofs.SizeLaws.{word_size}
use Rattle.spdu_codec.proofs.laws.written_length.Goals as goal

pub returns : goal.returns
returns c = word_size
