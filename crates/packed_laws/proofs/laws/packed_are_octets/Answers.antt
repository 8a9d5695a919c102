use Rattle.packed_laws.proofs.Octets.{packed-octets}
use Rattle.packed_laws.proofs.laws.packed_are_octets.Goals as goal

pub returns : goal.returns
returns c = record { law = packed-octets }
