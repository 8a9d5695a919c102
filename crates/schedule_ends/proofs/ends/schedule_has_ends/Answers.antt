use Rattle.schedule_text.specs.Schedules.{configs_and_events}
use Rattle.schedule_ends.proofs.Premises.{has_ends}
use Rattle.schedule_ends.proofs.ends.schedule_has_ends.Goals as goal

pub returns : goal.returns
returns c =
    has_ends c.args.tables.now (configs_and_events c.args.schedule.now) c.schedules_are_run.ensures c.hold_readable.ensures
    c.config_is_of_end.ensures c.config_is_of_end-2.ensures c.events_are_calls.ensures
