use Rattle.std.proofs.Common.{List, ℕ, None, arith}
use Rattle.asn1_types.specs.Writing.{writes, written}
use Rattle.ber_writing.proofs.ComparedLaws.{less_so}
use Rattle.ber_writing.proofs.order.less_by_pieces.Goals as goal

pub returns : goal.returns
unfolding written
returns c =
    let x : List ℕ = writes c.args.table.now c.args.of.0 None c.args.a.now in
    let y : List ℕ = writes c.args.table.now c.args.of.0 None c.args.b.now in
    less_so c.in_ok-told.told x y c.is_lt-less.result c.in_ok-told.ensures (omega (arith, c.in_ok-told.ensures.len)) (omega (arith, c.in_ok-told.ensures.other)) c.is_lt-less.ensures
