use Rattle.std.proofs.Common.{refl, ap, subst, ◌∙◌}
use Rattle.std.specs.Prelude.{IfOk, OnErr}
use Rattle.end_rules.specs.State.{passes_over}
use Rattle.association_meaning.specs.association_intake.Seen.{seen_front}
use Rattle.association_reacting.specs.association_state.Seen.{seen}
use Rattle.association_end.specs.View.{EndView}
use Rattle.association_end.specs.Progress.{Keeps}
use Rattle.association_end.specs.OneMessage.{ReactedTo, with_body}
use Rattle.association_end.proofs.Inside.{view_in}
use Rattle.association_end.proofs.Sounds.{up_some, sound_body}
use Rattle.association_end.proofs.ReactionSent.{on_err, reacted_so}
use Rattle.association_end.proofs.end.End.react.Goals as goal

pub react_to-requires-clause-up : goal.react_to-requires-clause-up
react_to-requires-clause-up c = ap (λ (e : EndView). passes_over e.end.body.link.phase) c.self.view_is ∙ c.requires.up

pub invariant_of-self : goal.invariant_of-self
invariant_of-self c =
    sound_body (view_in c.self.inside) (seen c.react_to.new.body) c.self.invariant
    (up_some (view_in c.self.inside) c.self.invariant (ap (λ (e : EndView). passes_over e.end.body.link.phase) c.self.view_is ∙ c.requires.up))

pub returns-clause-ok : goal.returns-clause-ok
returns-clause-ok c =
    let new : EndView = with_body (seen c.react_to.new.body) (view_in c.self.inside) in
    subst (λ (e : EndView). IfOk c.react_to.result (ReactedTo e new (seen_front c.args.front))) c.self.view_is
    (reacted_so (view_in c.self.inside) new (seen c.react_to.new.body) (seen_front c.args.front) c.react_to.result refl c.react_to.ensures)

pub returns-clause-err : goal.returns-clause-err
returns-clause-err c =
    let new : EndView = with_body (seen c.react_to.new.body) (view_in c.self.inside) in
    subst (λ (e : EndView). OnErr c.react_to.result (Keeps e new)) c.self.view_is
    (on_err c.react_to.result _ (record { tables = refl; config = refl; waiting = refl }))
