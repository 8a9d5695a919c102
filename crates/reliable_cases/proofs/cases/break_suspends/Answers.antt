use Rattle.std.proofs.Common.{refl}
use Rattle.reliable_cases.specs.Events.{calc_common, broken}
use Rattle.reliable_cases.proofs.Leading.{leads}
use Rattle.reliable_cases.proofs.cases.break_suspends.Goals as goal

pub returns : goal.returns
returns c = record { suspended = leads calc_common broken _ refl (refl, refl, refl, refl, refl) }
