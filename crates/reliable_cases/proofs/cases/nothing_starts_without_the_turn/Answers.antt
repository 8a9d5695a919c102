use Rattle.std.proofs.Common.{refl}
use Rattle.reliable_cases.specs.Events.{calc_common, without_turn}
use Rattle.reliable_cases.proofs.Leading.{leads}
use Rattle.reliable_cases.proofs.cases.nothing_starts_without_the_turn.Goals as goal

pub returns : goal.returns
returns c = record { waits = leads calc_common without_turn _ refl (refl, refl) }
