use Rattle.std.proofs.Common.{refl}
use Rattle.end_rules.proofs.cases.four_additions_are_lost.Goals as goal

pub returns : goal.returns
returns c = record { told = (refl, refl); sets = (refl, refl, refl); replies = refl }
