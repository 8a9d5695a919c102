use Rattle.std.proofs.Common.{refl}
use Rattle.reliable_cases.specs.Events.{calc_common, next_after_discard}
use Rattle.reliable_cases.proofs.Leading.{leads}
use Rattle.reliable_cases.proofs.cases.number_of_discarded_is_spent.Goals as goal

pub returns : goal.returns
returns c = record { next = leads calc_common next_after_discard _ refl (refl, refl, refl) }
