use Rattle.der_octets.proofs.Octets.{der-octets}
use Rattle.der_octets.proofs.laws.der_are_octets.Goals as goal

pub returns : goal.returns
returns c = record { law = der-octets }
