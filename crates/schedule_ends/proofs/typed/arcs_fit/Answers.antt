use Rattle.std.proofs.Common.{sym, arith}
use Rattle.asn1_types.proofs.FitLaws.{all_small}
use Rattle.schedule_ends.proofs.typed.arcs_fit.Goals as goal

pub returns : goal.returns
returns c = sym (all_small c.args.arcs.now (λ i. omega (arith, c.type_inv.arcs i)))
