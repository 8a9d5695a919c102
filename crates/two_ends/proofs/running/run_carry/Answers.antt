use Rattle.two_ends.specs.Events.{carried_over}
use Rattle.two_ends.proofs.running.run_carry.Goals as goal

pub returns : goal.returns
returns g c = carried_over c.args.side c.args.most c.in_ok-carried.carried c.in_ok-carried.ensures
