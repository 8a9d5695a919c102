use Rattle.bare_duo.proofs.Cutting.{one_feed}
use Rattle.bare_duo.proofs.laws.one_feed.Goals as goal

pub returns : goal.returns
returns c = one_feed c.one_content.ensures
