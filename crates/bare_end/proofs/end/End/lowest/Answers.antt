use Rattle.bare_end.proofs.Sent.{lowest_is}
use Rattle.bare_end.proofs.end.End.lowest.Goals as goal

pub returns : goal.returns
returns c = lowest_is c.args.self.now.tables
