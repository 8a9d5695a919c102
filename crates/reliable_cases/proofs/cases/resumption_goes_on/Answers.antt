use Rattle.std.proofs.Common.{refl}
use Rattle.reliable_cases.specs.Events.{calc_common, resumed}
use Rattle.reliable_cases.proofs.Leading.{leads}
use Rattle.reliable_cases.proofs.cases.resumption_goes_on.Goals as goal

pub returns : goal.returns
returns c = record { resumed = leads calc_common resumed _ refl (refl, refl, refl, refl) }
