use Rattle.std.proofs.Common.{sym, ◌∙◌, arith}
use Rattle.ber_writing.proofs.ComparedLaws.{ends_so}
use Rattle.ber_writing.proofs.pieces.octets_compared.Goals as goal

pub returns : goal.returns
returns c =
    c.cmp-2.ensures
    ∙ sym (ends_so c.args.a.now c.args.b.now c.loop-index.index
    (omega (arith, c.min-index-end.ensures, c.loop-index.auto.index-end)) (omega (arith, c.min-index-end.ensures, c.loop-index.auto.index-end)) (omega (arith, c.min-index-end.ensures, c.loop-index-test.false)))
    ∙ c.loop-index.invariant
