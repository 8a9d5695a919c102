use Rattle.std.proofs.Common.{Bool, sym, subst, ◌∙◌}
use Rattle.association_end.specs.Progress.{ReadOneOrAll, ReadOne}
use Rattle.association_end.proofs.ReactionSent.{on_err}
use Rattle.association_end.proofs.Feeds.{reads_on_start, reads_on_more, reads_on_end, reads_on_over, reads_on_kept}
use Rattle.association_end.proofs.end.End.read_all.Goals as goal

pub reading-init : goal.reading-init
reading-init c = reads_on_start c.args.self.now c.args.shown.now

pub returns-then-is_over-clause-ok : goal.returns-then-is_over-clause-ok
returns-then-is_over-clause-ok c = reads_on_over c.args.self.now c.reading.self c.args.shown.now c.reading.shown c.reading.invariant (sym c.is_over.ensures ∙ c.if-is_over.true)

pub read_next-requires : goal.read_next-requires
read_next-requires c = sym c.is_over.ensures ∙ c.if-is_over.false

pub returns-then-not-more-clause-ok : goal.returns-then-not-more-clause-ok
returns-then-not-more-clause-ok c =
    reads_on_end c.args.self.now c.reading.self c.read_next.new.self c.args.shown.now c.reading.shown c.read_next.new.shown c.reading.invariant
    (subst (λ (b : Bool). ReadOneOrAll b c.reading.self c.read_next.new.self c.reading.shown c.read_next.new.shown) c.if-not-more.true c.in_ok-more.ensures)

pub reading-preserved : goal.reading-preserved
reading-preserved c =
    reads_on_more c.args.self.now c.reading.self c.read_next.new.self c.args.shown.now c.reading.shown c.read_next.new.shown c.reading.invariant
    (subst (λ (b : Bool). ReadOneOrAll b c.reading.self c.read_next.new.self c.reading.shown c.read_next.new.shown) c.if-not-more.false c.in_ok-more.ensures)

pub reading-smaller : goal.reading-smaller
reading-smaller c =
    let d : ReadOne c.reading.self c.read_next.new.self c.reading.shown c.read_next.new.shown
    = subst (λ (b : Bool). ReadOneOrAll b c.reading.self c.read_next.new.self c.reading.shown c.read_next.new.shown) c.if-not-more.false c.in_ok-more.ensures in
    d.fewer

pub returns-in_err-more-clause-err : goal.returns-in_err-more-clause-err
returns-in_err-more-clause-err c =
    on_err c.from_residual.result _ (reads_on_kept c.args.self.now c.reading.self c.read_next.new.self c.args.shown.now c.reading.shown c.reading.invariant c.in_err-more.ensures)
