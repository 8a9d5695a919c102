use Rattle.std.proofs.Common.{refl}
use Rattle.reliable_cases.specs.Events.{calc_common, discarded}
use Rattle.reliable_cases.proofs.Leading.{leads}
use Rattle.reliable_cases.proofs.cases.discard_cuts.Goals as goal

pub returns : goal.returns
returns c = record { discarded = leads calc_common discarded _ refl (refl, refl, refl, refl, refl) }
