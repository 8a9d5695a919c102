use Rattle.std.proofs.Common.{Bool, subst}
use Rattle.bare_end.specs.Feed.{ReadOneOrAll}
use Rattle.bare_end.proofs.Fed.{on_err, reads_on_start, reads_on_more, reads_on_end, reads_on_kept}
use Rattle.bare_end.proofs.end.End.read_all.Goals as goal

pub loop-more-init : goal.loop-more-init
loop-more-init c = reads_on_start c.args.self.now c.args.shown.now c.requires

pub returns-then-not-more-clause-ok : goal.returns-then-not-more-clause-ok
returns-then-not-more-clause-ok c =
    reads_on_end c.args.self.now c.loop-more.self c.read_next.new.self c.args.shown.now c.loop-more.shown c.read_next.new.shown c.loop-more.invariant
    (subst (λ (b : Bool). ReadOneOrAll b c.loop-more.self c.read_next.new.self c.loop-more.shown c.read_next.new.shown) c.if-not-more.true c.in_ok-more.ensures)

pub loop-more-preserved : goal.loop-more-preserved
loop-more-preserved c =
    reads_on_more c.args.self.now c.loop-more.self c.read_next.new.self c.args.shown.now c.loop-more.shown c.read_next.new.shown c.loop-more.invariant
    (subst (λ (b : Bool). ReadOneOrAll b c.loop-more.self c.read_next.new.self c.loop-more.shown c.read_next.new.shown) c.if-not-more.false c.in_ok-more.ensures)

pub returns-in_err-more-clause-err : goal.returns-in_err-more-clause-err
returns-in_err-more-clause-err c =
    on_err c.from_residual.result _ (reads_on_kept c.args.self.now c.loop-more.self c.read_next.new.self c.args.shown.now c.loop-more.shown c.loop-more.invariant c.in_err-more.ensures)
