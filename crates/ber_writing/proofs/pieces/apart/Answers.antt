use Rattle.std.proofs.Common.{get_or, refl, arith}
use Rattle.ber_writing.proofs.ComparedLaws.{same_apart, other_apart}
use Rattle.ber_writing.proofs.pieces.apart.Goals as goal

pub returns-then-a-b : goal.returns-then-a-b
returns-then-a-b c = same_apart c.strings_compared.result c.args.a.now c.args.b.now c.strings_compared.ensures c.if-a-b.true

pub returns-then-a-index : goal.returns-then-a-index
returns-then-a-index c =
    other_apart c.strings_compared-then-a-index.result c.args.a.now c.args.b.now c.loop-index.index (get_or c.args.a.now c.loop-index.index 0) (get_or c.args.b.now c.loop-index.index 0) c.strings_compared-then-a-index.ensures
    (omega (arith, c.loop-index-test.true, c.min-index-end.ensures)) (omega (arith, c.loop-index-test.true, c.min-index-end.ensures)) refl refl c.if-a-index.true
