use Rattle.std.proofs.Common.{◌∷◌, [], ◌++◌, ◌∙◌, take, List, sym, subst}
use Rattle.dialogue.specs.declared.event.Event.{Event}
use Rattle.dialogue.specs.declared.event.Entry.{Entry}
use Rattle.two_ends.specs.Events.{AllHappened, nothing_yet, one_more}
use Rattle.two_ends.proofs.Lists.{take_one_more, take_whole}
use Rattle.two_ends.proofs.running.run_events.Goals as goal

pub loop-event-init : goal.loop-event-init
loop-event-init g c = subst (λ (told : List Entry). AllHappened g.A.RunEnd.conduct g.B.RunEnd.conduct c.args.a.now c.args.b.now [] told c.args.a.now c.args.b.now) (sym c.new-entries.ensures) nothing_yet

pub loop-event-preserved : goal.loop-event-preserved
loop-event-preserved g c =
    let p = g.A.RunEnd.conduct in
    let q = g.B.RunEnd.conduct in
    let all = c.as_slice-event-items.result.now in
    let done = take c.loop-event.event-index all in
    let event = c.event-item.result in
    subst (λ (es : List Event). AllHappened p q c.args.a.now c.args.b.now es c.push.new.self c.run_event.new.a c.run_event.new.b) (sym (take_one_more all c.loop-event.event-index event c.loop-event-test.true c.event-item.is))
    (subst (λ (told : List Entry). AllHappened p q c.args.a.now c.args.b.now (done ++ event ∷ []) told c.run_event.new.a c.run_event.new.b) (sym c.in_ok-push.ensures.ok)
    (one_more event c.in_ok-entry.entry c.loop-event.invariant c.in_ok-entry.ensures))

pub returns : goal.returns
returns g c =
    subst (λ (es : List Event). AllHappened g.A.RunEnd.conduct g.B.RunEnd.conduct c.args.a.now c.args.b.now es c.loop-event.entries c.loop-event.a c.loop-event.b)
    (take_whole c.as_slice-event-items.result.now c.loop-event.event-index c.loop-event-test.false ∙ c.as_slice-event-items.ensures) c.loop-event.invariant
