use Rattle.der_octets.proofs.Fitting.{fitting-leaves}
use Rattle.der_octets.proofs.laws.fitting_leaves_are.Goals as goal

pub returns : goal.returns
returns c = record { law = fitting-leaves }
