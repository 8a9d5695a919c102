use Rattle.std.proofs.Common.{[], ◌∷◌, refl, ap, subst}
use Rattle.std.proofs.lemmas.Result.{on_ok_weaker}
use Rattle.std.specs.Prelude.{OnOk}
use Rattle.end_rules.specs.State.{Link}
use Rattle.end_rules.specs.History.{encoded}
use Rattle.association_reacting.specs.association_state.Seen.{seen}
use Rattle.association_end.specs.View.{EndView, Stepped}
use Rattle.association_end.specs.OneMessage.{with_body}
use Rattle.association_end.proofs.Inside.{view_in}
use Rattle.association_end.proofs.Sounds.{sound_same}
use Rattle.association_end.proofs.ReactionSent.{on_err, kept_line}
use Rattle.association_end.proofs.Own.{encoded_so}
use Rattle.association_end.proofs.end.End.encode.Goals as goal

pub invariant_of-self : goal.invariant_of-self
invariant_of-self c =
    sound_same (view_in c.self.inside) (seen c.encode.new.body) c.self.invariant (ap (λ (l : Link). l.phase) c.encode.ensures.link)

pub returns-clause-ok : goal.returns-clause-ok
returns-clause-ok c =
    let new : EndView = with_body (seen c.encode.new.body) (view_in c.self.inside) in
    subst (λ (e : EndView). OnOk c.encode.result (Stepped e new (encoded c.args.context ∷ []))) c.self.view_is
    (on_ok_weaker c.encode.result (encoded_so (view_in c.self.inside) c.args.context (seen c.encode.new.body)) c.encode.ensures.ok)

pub returns-clause-err : goal.returns-clause-err
returns-clause-err c = on_err c.encode.result _ (kept_line (view_in c.self.inside) c.args.self.now _ c.self.view_is refl refl refl)
