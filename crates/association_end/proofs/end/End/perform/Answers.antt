use Rattle.std.proofs.Common.{[], ◌∷◌, Some, sym, subst, ◌≡◌}
use Rattle.std.specs.Prelude.{OnOk}
use Rattle.end_rules.specs.ByItself.{SendsNow, next_own}
use Rattle.end_rules.specs.History.{step_of}
use Rattle.association_words.specs.Seen.{seen_message}
use Rattle.association_requests.specs.declared.own_messages.OwnAct.{OwnAct}
use Rattle.association_requests.specs.OwnActs.{seen_act}
use Rattle.association_end.specs.View.{base, Stepped}
use Rattle.association_end.proofs.Own.{own_up, sends_stand}
use Rattle.association_end.proofs.end.End.perform.Goals as goal

pub returns-in-Encodes-clause-ok : goal.returns-in-Encodes-clause-ok
returns-in-Encodes-clause-ok c =
    subst (λ (a : OwnAct). OnOk c.encode.result (Stepped c.args.self.now c.encode.new.self (step_of (seen_act a) ∷ []))) (sym c.in-Encodes.is) c.encode.ensures.ok

pub send-sent-requires-clause-up : goal.send-sent-requires-clause-up
send-sent-requires-clause-up c =
    let next : Some (SendsNow (seen_message c.in-Sends.message)) ≡ next_own (base c.args.self.now) c.args.self.now.end.body
    = subst (λ (a : OwnAct). Some (seen_act a) ≡ next_own (base c.args.self.now) c.args.self.now.end.body) c.in-Sends.is c.requires in
    own_up (base c.args.self.now) c.args.self.now.end.body (SendsNow (seen_message c.in-Sends.message)) (sym next)

pub send-sent-requires-clause-room : goal.send-sent-requires-clause-room
send-sent-requires-clause-room c =
    let next : Some (SendsNow (seen_message c.in-Sends.message)) ≡ next_own (base c.args.self.now) c.args.self.now.end.body
    = subst (λ (a : OwnAct). Some (seen_act a) ≡ next_own (base c.args.self.now) c.args.self.now.end.body) c.in-Sends.is c.requires in
    sends_stand (base c.args.self.now) c.args.self.now.end.body (seen_message c.in-Sends.message) next

pub returns-in-Sends-clause-ok : goal.returns-in-Sends-clause-ok
returns-in-Sends-clause-ok c =
    subst (λ (a : OwnAct). OnOk c.send-sent.result (Stepped c.args.self.now c.send-sent.new.self (step_of (seen_act a) ∷ []))) (sym c.in-Sends.is) c.send-sent.ensures.ok
