use Rattle.session_subset.proofs.TurnLaws.{of_mode}
use Rattle.session_subset.proofs.laws.units_of_mode.Goals as goal

pub returns : goal.returns
returns c = of_mode
