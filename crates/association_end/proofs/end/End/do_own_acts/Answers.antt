use Rattle.std.proofs.Common.{Bool, subst}
use Rattle.association_end.specs.Progress.{DidOneOrRests}
use Rattle.association_end.proofs.ReactionSent.{on_err}
use Rattle.association_end.proofs.Own.{own_on_start, own_on_more, own_on_end, own_on_kept, less_left}
use Rattle.association_end.proofs.end.End.do_own_acts.Goals as goal

pub doing-init : goal.doing-init
doing-init c = own_on_start c.args.self.now

pub returns-then-not-more-clause-ok : goal.returns-then-not-more-clause-ok
returns-then-not-more-clause-ok c =
    own_on_end c.args.self.now c.doing.self c.doing.invariant c.do_next.new.self (subst (λ (b : Bool). DidOneOrRests b c.doing.self c.do_next.new.self) c.if-not-more.true c.in_ok-more.ensures)

pub doing-preserved : goal.doing-preserved
doing-preserved c =
    own_on_more c.args.self.now c.doing.self c.doing.invariant c.do_next.new.self (subst (λ (b : Bool). DidOneOrRests b c.doing.self c.do_next.new.self) c.if-not-more.false c.in_ok-more.ensures)

pub doing-smaller : goal.doing-smaller
doing-smaller c =
    less_left c.own_acts_end.ensures.less c.doing.self c.do_next.new.self (subst (λ (b : Bool). DidOneOrRests b c.doing.self c.do_next.new.self) c.if-not-more.false c.in_ok-more.ensures)

pub returns-in_err-more-clause-err : goal.returns-in_err-more-clause-err
returns-in_err-more-clause-err c = on_err c.from_residual.result _ (own_on_kept c.args.self.now c.doing.self c.doing.invariant c.do_next.new.self c.in_err-more.ensures)
