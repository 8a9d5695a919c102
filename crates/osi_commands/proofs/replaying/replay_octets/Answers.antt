use Rattle.osi_commands.proofs.Second.{is_set_up}
use Rattle.osi_commands.proofs.replaying.replay_octets.Goals as goal

pub replay-requires-clause-set_up : goal.replay-requires-clause-set_up
replay-requires-clause-set_up c = is_set_up c.schedules_are_run.ensures c.args.tables.now c.args.octets.now _ c.schedule_has_ends.ensures c.in-Ok.ensures.ok
