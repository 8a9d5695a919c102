use Rattle.session_subset.proofs.PhaseLaws.{awaited_in_phase}
use Rattle.session_subset.proofs.laws.awaited_in_phase.Goals as goal

pub returns : goal.returns
returns c = awaited_in_phase
