use Rattle.std.proofs.Common.{refl}
use Rattle.reliable_cases.specs.Events.{calc_common, confirmed_again}
use Rattle.reliable_cases.proofs.Leading.{leads}
use Rattle.reliable_cases.proofs.cases.end_is_confirmed_again.Goals as goal

pub returns : goal.returns
returns c = record { again = leads calc_common confirmed_again _ refl (refl, refl, refl, refl) }
