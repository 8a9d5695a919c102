use Rattle.replays.proofs.Same.{one_transcript}
use Rattle.replays.proofs.laws.one_transcript.Goals as goal

pub returns : goal.returns
returns c = one_transcript c.one_run.ensures c.one_feed.ensures.law c.one_call.ensures.law
