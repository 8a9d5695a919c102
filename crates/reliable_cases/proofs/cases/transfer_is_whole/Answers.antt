use Rattle.std.proofs.Common.{refl}
use Rattle.reliable_cases.specs.Events.{calc_common, transferred}
use Rattle.reliable_cases.proofs.Leading.{leads}
use Rattle.reliable_cases.proofs.cases.transfer_is_whole.Goals as goal

pub returns : goal.returns
returns c = record { whole = leads calc_common transferred _ refl (refl, refl, refl, refl) }
