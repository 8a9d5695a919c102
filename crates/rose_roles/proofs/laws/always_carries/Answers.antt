use Rattle.rose_roles.proofs.Carrying.{always_carries}
use Rattle.rose_roles.proofs.laws.always_carries.Goals as goal

pub returns : goal.returns
returns c = always_carries
