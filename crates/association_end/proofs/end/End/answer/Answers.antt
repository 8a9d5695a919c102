use Rattle.std.proofs.Common.{List, sym, subst}
use Rattle.std.proofs.lemmas.Result.{on_ok_weaker, on_err_weaker}
use Rattle.association_words.specs.declared.words.Message.{Message}
use Rattle.association_reacting.specs.association_answers.BroughtAs.{seen_messages}
use Rattle.association_end.specs.OneMessage.{AllMayStand}
use Rattle.association_end.proofs.Inside.{view_in}
use Rattle.association_end.proofs.Sounds.{sound_size}
use Rattle.association_end.proofs.ReactionSent.{settled_so, kept_sized}
use Rattle.association_end.proofs.end.End.answer.Goals as goal

pub invariant_of-self : goal.invariant_of-self
invariant_of-self c = sound_size (view_in c.self.inside) c.args.size c.self.invariant c.requires.sized

pub send_all-requires : goal.send_all-requires
send_all-requires c = subst (λ (ms : List Message). AllMayStand (seen_messages ms)) (sym c.as_slice.ensures) c.requires.room

pub returns-clause-ok : goal.returns-clause-ok
returns-clause-ok c =
    on_ok_weaker c.send_all.result
    (settled_so (view_in c.self.inside) c.args.self.now c.send_all.new.self c.args.taken.answers c.as_slice.result.now c.args.size c.args.shown.now c.show.new.shown c.args.taken.shown c.self.view_is c.as_slice.ensures c.in_ok-show.ensures)
    c.send_all.ensures.ok

pub returns-clause-err : goal.returns-clause-err
returns-clause-err c =
    on_err_weaker c.send_all.result (kept_sized (view_in c.self.inside) c.args.self.now c.send_all.new.self c.args.size c.self.view_is) c.send_all.ensures.err
