use Rattle.std.proofs.Common.{sym, subst}
use Rattle.dialogue.specs.declared.call.Call.{Call}
use Rattle.dialogue.specs.declared.event.Event.TheVariants as the_events
use Rattle.dialogue.specs.declared.event.Entry.TheVariants as the_entries
use Rattle.two_ends.specs.Events.{Happened, called}
use Rattle.two_ends.proofs.running.run_call.Goals as goal

pub returns : goal.returns
returns g c =
    subst (λ (kept : Call). Happened g.A.RunEnd.conduct g.B.RunEnd.conduct (the_events.Call c.args.side c.args.call.now) (the_entries.Call c.args.side kept c.in_ok-answer.answer) c.args.a.now c.args.b.now c.answer_at.new.a c.answer_at.new.b) (sym c.in_ok-kept.ensures)
    (called c.args.side c.args.call.now c.in_ok-answer.answer c.in_ok-answer.ensures)
