use Rattle.std.proofs.Common.{refl}
use Rattle.end_rules.proofs.cases.restart_brings_back_the_set.Goals as goal

pub returns : goal.returns
returns c = record { before = (refl, refl, refl); after = (refl, refl, refl) }
