use Rattle.std.proofs.Common.{refl}
use Rattle.reliable_cases.specs.Events.{calc_common, given}
use Rattle.reliable_cases.proofs.Leading.{leads}
use Rattle.reliable_cases.proofs.cases.giving_hands_the_turn.Goals as goal

pub returns : goal.returns
returns c = record { given = leads calc_common given _ refl (refl, refl, refl) }
