use Rattle.std.proofs.Common.{◌≡◌, drop}
use Rattle.std.specs.List.{list_all}
use Rattle.schedule_ends.specs.Fitting.{event_fits}
use Rattle.schedule_ends.proofs.typed.events_fit.Given as goal

abbrev pub invariant-loop-event : goal.invariant-loop-event
invariant-loop-event l = list_all event_fits (drop l.event-index l.events) ≡ list_all event_fits l.events
