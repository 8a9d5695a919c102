use Rattle.spdu_codec.specs.Written.{units_written}
use Rattle.spdu_codec.proofs.WireLaws.{all_again}
use Rattle.spdu_codec.proofs.RoundLaws.{written_are}
use Rattle.spdu_codec.proofs.laws.written_is_read.Goals as goal

pub returns : goal.returns
returns c = record { spelled = written_are; read = λ words h. all_again (units_written words) words (written_are words h) }
