use Rattle.association_line.proofs.One.{one-feed}
use Rattle.association_line.proofs.laws.one_feed.Goals as goal

pub returns : goal.returns
returns c = record { law = one-feed }
