use Rattle.packed_laws.proofs.Forms.{fitting-packed}
use Rattle.packed_laws.proofs.laws.fitting_is_packed.Goals as goal

pub returns : goal.returns
returns c = record { law = fitting-packed }
