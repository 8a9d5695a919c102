use Rattle.std.proofs.Common.{refl}
use Rattle.reliable_cases.specs.Events.{calc_common, end_unconfirmed}
use Rattle.reliable_cases.proofs.Leading.{leads}
use Rattle.reliable_cases.proofs.cases.next_item_waits_for_the_end.Goals as goal

pub returns : goal.returns
returns c = record { waits = leads calc_common end_unconfirmed _ refl (refl, refl) }
