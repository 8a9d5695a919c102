use Rattle.std.proofs.Common.{refl}
use Rattle.reliable_cases.specs.Events.{calc_common, interrupted}
use Rattle.reliable_cases.proofs.Leading.{leads}
use Rattle.reliable_cases.proofs.cases.interrupt_suspends.Goals as goal

pub returns : goal.returns
returns c = record { interrupted = leads calc_common interrupted _ refl (refl, refl, refl) }
