use Rattle.std.proofs.Common.{refl}
use Rattle.reliable_cases.specs.Events.{calc_common, broken_giving}
use Rattle.reliable_cases.proofs.Leading.{leads}
use Rattle.reliable_cases.proofs.cases.broken_giving_returns_the_turn.Goals as goal

pub returns : goal.returns
returns c = record { back = leads calc_common broken_giving _ refl (refl, refl, refl) }
