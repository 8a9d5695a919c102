use Rattle.std.proofs.Common.{List, ℕ, sym, ◌∙◌, arith}
use Rattle.asn1_types.specs.Writing.{written}
use Rattle.ber_writing.proofs.LessLaws.{less_ends}
use Rattle.ber_writing.proofs.order.each_less.Goals as goal

pub returns : goal.returns
returns c =
    let a : List ℕ = written c.args.table.now c.args.of.0 c.args.a.now in
    let b : List ℕ = written c.args.table.now c.args.of.0 c.args.b.now in
    rw (c.requires.len, c.requires.other) (
    sym (less_ends a b c.loop-index.index
    (omega (arith, c.min-index-end.ensures, c.requires.len, c.loop-index.auto.index-end)) (omega (arith, c.min-index-end.ensures, c.requires.other, c.loop-index.auto.index-end)) (omega (arith, c.min-index-end.ensures, c.requires.len, c.requires.other, c.loop-index-test.false)))
    ∙ c.loop-index.invariant)
