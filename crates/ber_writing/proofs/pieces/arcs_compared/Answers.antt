use Rattle.std.proofs.Common.{arith}
use Rattle.ber_writing.proofs.ComparedLaws.{arcs_told}
use Rattle.ber_writing.proofs.pieces.arcs_compared.Goals as goal

pub returns : goal.returns
returns c = arcs_told c.args.a.now c.args.b.now c.digits_compared-first.result c.each_compared.result c.then.result (omega arith) (omega arith) c.digits_compared-first.ensures c.each_compared.ensures c.then.ensures
