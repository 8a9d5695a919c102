use Rattle.std.proofs.Common.{List, refl, ap, sym, subst, ◌∙◌}
use Rattle.association_words.specs.declared.words.Message.{Message}
use Rattle.end_rules.specs.State.{passes_over}
use Rattle.association_reacting.specs.association_answers.BroughtAs.{seen_messages}
use Rattle.association_end.specs.View.{EndView}
use Rattle.association_end.specs.OneMessage.{AllMayStand}
use Rattle.association_end.proofs.Inside.{view_in}
use Rattle.association_end.proofs.Sounds.{sound_deaf}
use Rattle.association_end.proofs.ReactionSent.{on_err, kept_same, aborted_so}
use Rattle.association_end.proofs.end.End.abort.Goals as goal

pub send_all-requires : goal.send_all-requires
send_all-requires c = subst (λ (ms : List Message). AllMayStand (seen_messages ms)) (sym c.as_slice.ensures) c.requires.room

pub invariant_of-self : goal.invariant_of-self
invariant_of-self c =
    sound_deaf (view_in c.self.inside) c.self.invariant
    (ap (λ (e : EndView). passes_over e.end.body.link.phase) (c.self.view_is ∙ c.in_ok-send_all.ensures.ok) ∙ c.requires.over)

pub returns-clause-ok : goal.returns-clause-ok
returns-clause-ok c =
    aborted_so (view_in c.self.inside) c.args.self.now c.send_all.new.self c.args.aborts c.as_slice.result.now c.args.shown.now c.show.new.shown c.args.told c.self.view_is c.in_ok-send_all.ensures.ok c.as_slice.ensures c.in_ok-show.ensures

pub returns-in_err-show-clause-err : goal.returns-in_err-show-clause-err
returns-in_err-show-clause-err c = on_err c.from_residual.result _ (kept_same c.args.self.now c.args.self.now refl)

pub returns-in_err-send_all-clause-err : goal.returns-in_err-send_all-clause-err
returns-in_err-send_all-clause-err c = on_err c.from_residual-in_err-send_all.result _ (kept_same c.args.self.now c.send_all.new.self c.in_err-send_all.ensures.err)
