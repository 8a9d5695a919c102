use Rattle.rose_roles.proofs.Within.{stays_within}
use Rattle.rose_roles.proofs.laws.stays_within.Goals as goal

pub returns : goal.returns
returns c = λ base calls context head own few. stays_within own base calls context few head
