use Rattle.std.proofs.Common.{refl}
use Rattle.reliable_cases.specs.Events.{calc_common, begun}
use Rattle.reliable_cases.proofs.Leading.{leads}
use Rattle.reliable_cases.proofs.cases.window_is_full.Goals as goal

pub returns : goal.returns
returns c = record { full = leads calc_common begun _ refl (refl, refl, refl, refl) }
