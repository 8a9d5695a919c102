use Rattle.std.proofs.Common.{refl}
use Rattle.reliable_cases.specs.Events.{calc_common, opening}
use Rattle.reliable_cases.proofs.Leading.{leads}
use Rattle.reliable_cases.proofs.cases.opening_is_up.Goals as goal

pub returns : goal.returns
returns c = record { up = leads calc_common opening _ refl (refl, refl, refl, refl, refl, refl) }
