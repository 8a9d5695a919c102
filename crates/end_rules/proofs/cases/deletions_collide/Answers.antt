use Rattle.std.proofs.Common.{refl}
use Rattle.end_rules.proofs.cases.deletions_collide.Goals as goal

pub returns : goal.returns
returns c = record { sets = (refl, refl, refl); again = refl }
