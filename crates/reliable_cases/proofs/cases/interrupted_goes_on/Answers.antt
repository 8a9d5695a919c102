use Rattle.std.proofs.Common.{refl}
use Rattle.reliable_cases.specs.Events.{calc_common, interrupted_resumed}
use Rattle.reliable_cases.proofs.Leading.{leads}
use Rattle.reliable_cases.proofs.cases.interrupted_goes_on.Goals as goal

pub returns : goal.returns
returns c = record { resumed = leads calc_common interrupted_resumed _ refl (refl, refl, refl, refl) }
