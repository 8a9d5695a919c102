use Rattle.std.proofs.Common.{ap, ◌∙◌}
use Rattle.association_reacting.specs.association_answers.BroughtAs.{seen_messages}
use Rattle.association_end.specs.OneMessage.{sending}
use Rattle.association_end.proofs.Inside.{view_in}
use Rattle.association_end.proofs.Sounds.{sound_waiting}
use Rattle.association_end.proofs.Sent.{sent_all, sent_none}
use Rattle.association_end.proofs.ReactionSent.{on_err}
use Rattle.association_end.proofs.end.End.send_all.Goals as goal

pub returns-clause-ok : goal.returns-clause-ok
returns-clause-ok c =
    sent_all (view_in c.self.inside) (seen_messages c.args.messages.now) c.extend.new.self c.as_slice.result.now c.in_ok-text.text c.in_ok-extend.ensures.ok c.as_slice.ensures c.in_ok-text.ensures
    ∙ ap (sending (seen_messages c.args.messages.now)) c.self.view_is

pub returns-in_err-extend-clause-err : goal.returns-in_err-extend-clause-err
returns-in_err-extend-clause-err c =
    on_err c.from_residual-in_err-extend.result _ (sent_none (view_in c.self.inside) c.extend.new.self c.in_err-extend.ensures.err ∙ c.self.view_is)

pub invariant_of-self : goal.invariant_of-self
invariant_of-self c = sound_waiting (view_in c.self.inside) c.extend.new.self c.self.invariant

pub invariant_of-self-2 : goal.invariant_of-self-2
invariant_of-self-2 c = sound_waiting (view_in c.self.inside) c.extend.new.self c.self.invariant
