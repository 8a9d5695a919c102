use Rattle.std.proofs.Common.{take}
use Rattle.two_ends.specs.Events.{AllHappened}
use Rattle.two_ends.proofs.running.run_events.Given as goal

abbrev pub invariant-loop-event : goal.invariant-loop-event
invariant-loop-event g l = AllHappened g.A.RunEnd.conduct g.B.RunEnd.conduct l.fn.a l.fn.b (take l.event-index l.event-items) l.entries l.a l.b
