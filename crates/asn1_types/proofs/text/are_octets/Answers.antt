use Rattle.std.proofs.Common.{arith}
use Rattle.asn1_types.proofs.FitLaws.{all_octets}
use Rattle.asn1_types.proofs.text.are_octets.Goals as goal

pub returns : goal.returns
returns c = all_octets c.args.octets.now (λ i. omega (arith, c.type_inv.octets i))
