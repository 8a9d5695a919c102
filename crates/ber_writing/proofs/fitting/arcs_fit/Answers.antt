use Rattle.std.proofs.Common.{arith}
use Rattle.asn1_types.proofs.FitLaws.{all_small}
use Rattle.ber_writing.proofs.fitting.arcs_fit.Goals as goal

pub returns : goal.returns
returns c = all_small c.args.arcs.now (λ i. omega (arith, c.type_inv.arcs i))
