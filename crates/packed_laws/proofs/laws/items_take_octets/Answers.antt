use Rattle.packed_laws.proofs.Items.{items-take}
use Rattle.packed_laws.proofs.laws.items_take_octets.Goals as goal

pub returns : goal.returns
returns c = record { law = items-take }
