use Rattle.two_ends.specs.Events.{both_broke}
use Rattle.two_ends.proofs.running.run_break.Goals as goal

pub returns : goal.returns
returns g c = both_broke c.break_off.ensures c.break_off-2.ensures
