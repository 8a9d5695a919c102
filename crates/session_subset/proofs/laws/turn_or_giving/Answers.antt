use Rattle.session_subset.proofs.TurnLaws.{turn_or_giving}
use Rattle.session_subset.proofs.laws.turn_or_giving.Goals as goal

pub returns : goal.returns
returns c = turn_or_giving
