use Rattle.bare_duo.proofs.Unique.{one_run}
use Rattle.bare_duo.proofs.laws.one_run.Goals as goal

pub returns : goal.returns
returns c = one_run c.one_content.ensures
