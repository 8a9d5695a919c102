use Rattle.bare_duo.proofs.Cutting.{any_cutting}
use Rattle.bare_duo.proofs.laws.any_cutting.Goals as goal

pub returns : goal.returns
returns c = any_cutting c.one_content.ensures
