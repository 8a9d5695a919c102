use Rattle.tpkt.proofs.StreamLaws.{splits_join, handed_join}
use Rattle.tpkt.proofs.laws.streams_join.Goals as goal

pub returns : goal.returns
returns c = record { splits = splits_join; handed = handed_join }
