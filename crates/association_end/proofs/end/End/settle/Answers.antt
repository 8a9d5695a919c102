use Rattle.std.proofs.Common.{true, false, refl, sym, subst}
use Rattle.association_reacting.specs.association_answers.declared.brought.Reaction.{Reaction}
use Rattle.association_end.specs.OneMessage.{AllMayStand, sent_for, IsOverFor, SettlesFor}
use Rattle.association_end.proofs.ReactionSent.{settled_nothing}
use Rattle.association_end.proofs.end.End.settle.Goals as goal

pub returns-in-Passes : goal.returns-in-Passes
returns-in-Passes c =
    subst (λ (r : Reaction). SettlesFor r c.args.size c.args.self.now c.args.self.now c.args.shown.now c.args.shown.now true) (sym c.in-Passes.is) (refl, settled_nothing c.args.self.now c.args.shown.now)

pub answer-requires-clause-room : goal.answer-requires-clause-room
answer-requires-clause-room c = subst (λ (r : Reaction). AllMayStand (sent_for r)) c.in-Takes.is c.requires.room

pub returns-in-Takes : goal.returns-in-Takes
returns-in-Takes c =
    subst (λ (r : Reaction). SettlesFor r c.args.size c.args.self.now c.answer.new.self c.args.shown.now c.answer.new.shown true) (sym c.in-Takes.is) (refl, c.in_ok-answer-in-Takes.ensures.ok)

pub abort-requires-clause-room : goal.abort-requires-clause-room
abort-requires-clause-room c = subst (λ (r : Reaction). AllMayStand (sent_for r)) c.in-Fails.is c.requires.room

pub abort-requires-clause-over : goal.abort-requires-clause-over
abort-requires-clause-over c = subst (λ (r : Reaction). IsOverFor r c.args.self.now) c.in-Fails.is c.requires.over

pub returns : goal.returns
returns c =
    subst (λ (r : Reaction). SettlesFor r c.args.size c.args.self.now c.abort.new.self c.args.shown.now c.abort.new.shown false) (sym c.in-Fails.is) (refl, c.in_ok-abort-in-Fails.ensures.ok)
