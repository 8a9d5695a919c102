use Rattle.stream_front.proofs.Seen.{more_seen}
use Rattle.stream_front.proofs.laws.seen_stays_seen.Goals as goal

pub returns : goal.returns
returns c = more_seen
