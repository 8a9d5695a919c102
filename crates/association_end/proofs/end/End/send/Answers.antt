use Rattle.std.proofs.Common.{[], ◌∷◌, refl, ap, subst, ◌∙◌}
use Rattle.std.proofs.lemmas.Result.{on_ok_weaker, on_err_weaker}
use Rattle.std.specs.Prelude.{OnOk}
use Rattle.end_rules.specs.State.{passes_over}
use Rattle.end_rules.specs.History.{sent}
use Rattle.association_words.specs.Seen.{seen_message}
use Rattle.association_reacting.specs.association_state.Seen.{seen}
use Rattle.association_end.specs.View.{EndView, Stepped}
use Rattle.association_end.proofs.Inside.{view_in}
use Rattle.association_end.proofs.Sounds.{up_some, sound_body}
use Rattle.association_end.proofs.ReactionSent.{on_err, kept_line, kept_sent}
use Rattle.association_end.proofs.Own.{sent_so}
use Rattle.association_end.proofs.end.End.send.Goals as goal

pub invariant_of-self : goal.invariant_of-self
invariant_of-self c =
    sound_body (view_in c.self.inside) (seen c.after_sent.new.body) c.self.invariant
    (up_some (view_in c.self.inside) c.self.invariant (ap (λ (e : EndView). passes_over e.end.body.link.phase) c.self.view_is ∙ c.requires.up))

pub invariant_of-self-2 : goal.invariant_of-self-2
invariant_of-self-2 c =
    sound_body (view_in c.self.inside) (seen c.after_sent.new.body) c.self.invariant
    (up_some (view_in c.self.inside) c.self.invariant (ap (λ (e : EndView). passes_over e.end.body.link.phase) c.self.view_is ∙ c.requires.up))

pub returns-clause-ok : goal.returns-clause-ok
returns-clause-ok c =
    subst (λ (e : EndView). OnOk c.write.result (Stepped e c.write.new.self (sent (seen_message c.args.message.now) ∷ []))) c.self.view_is
    (on_ok_weaker c.write.result (sent_so (view_in c.self.inside) c.write.new.self (seen_message c.args.message.now) (seen c.after_sent.new.body) c.in_ok-after_sent.ensures) c.write.ensures.ok)

pub returns-clause-err : goal.returns-clause-err
returns-clause-err c =
    on_err_weaker c.write.result (kept_sent (view_in c.self.inside) c.args.self.now c.write.new.self (seen c.after_sent.new.body) c.self.view_is) c.write.ensures.err

pub returns-in_err-after_sent-clause-err : goal.returns-in_err-after_sent-clause-err
returns-in_err-after_sent-clause-err c = on_err c.from_residual.result _ (kept_line (view_in c.self.inside) c.args.self.now _ c.self.view_is refl refl refl)
