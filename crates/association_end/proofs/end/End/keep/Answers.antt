use Rattle.std.proofs.Common.{[], ◌∷◌, Option, None, refl, ap, sym, subst, ◌∙◌}
use Rattle.end_rules.specs.History.{fed}
use Rattle.association_line.specs.association_reading.Front.{Intake}
use Rattle.association_end.specs.View.{EndView, Stepped}
use Rattle.association_end.specs.Seen.{came_in}
use Rattle.association_end.specs.Sound.{HasMessages}
use Rattle.association_end.specs.OneMessage.{with_came}
use Rattle.association_end.proofs.Inside.{view_in}
use Rattle.association_end.proofs.Sounds.{sound_deaf, sound_fed, sound_lost}
use Rattle.association_end.proofs.Feeds.{kept_over, kept_up}
use Rattle.association_end.proofs.ReactionSent.{kept_line}
use Rattle.association_end.proofs.end.End.keep.Goals as goal

pub invariant_of-self : goal.invariant_of-self
invariant_of-self c = sound_deaf (view_in c.self.inside) c.self.invariant (sym c.passes_over.ensures ∙ c.if-passes_over.true)

pub returns-then-passes_over-clause-ok : goal.returns-then-passes_over-clause-ok
returns-then-passes_over-clause-ok c =
    subst (λ (e : EndView). Stepped e (with_came None (view_in c.self.inside)) (fed c.args.octets.now ∷ [])) c.self.view_is
    (kept_over (view_in c.self.inside) (with_came None (view_in c.self.inside)) c.args.octets.now (sym c.passes_over.ensures ∙ c.if-passes_over.true) refl)

pub invariant_of-self-in-Ok : goal.invariant_of-self-in-Ok
invariant_of-self-in-Ok c =
    sound_fed (view_in c.self.inside) c.args.octets.now (came_in c.feed_in.new.intake) c.self.invariant (sym c.passes_over.ensures ∙ c.if-passes_over.false) c.in-Ok.ensures.ok

pub returns-in-Ok-clause-ok : goal.returns-in-Ok-clause-ok
returns-in-Ok-clause-ok c =
    let new : EndView = with_came (came_in c.feed_in.new.intake) (view_in c.self.inside) in
    subst (λ (e : EndView). Stepped e new (fed c.args.octets.now ∷ [])) c.self.view_is
    (kept_up (view_in c.self.inside) new c.args.octets.now (sym c.passes_over.ensures ∙ c.if-passes_over.false)
    (ap (λ (came : Option Intake). with_came came (view_in c.self.inside)) c.in-Ok.ensures.ok))

pub invariant_of-self-in-Err : goal.invariant_of-self-in-Err
invariant_of-self-in-Err c =
    sound_lost (view_in c.self.inside) (came_in c.feed_in.new.intake) c.self.invariant (subst HasMessages (sym c.in-Err.ensures.err) tt)

pub returns-in-Err-clause-err : goal.returns-in-Err-clause-err
returns-in-Err-clause-err c = kept_line (view_in c.self.inside) c.args.self.now _ c.self.view_is refl refl refl
