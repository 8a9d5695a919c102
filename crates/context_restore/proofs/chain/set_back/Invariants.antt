use Rattle.std.proofs.Common.{◌≡◌, ◌-◌}
use Rattle.context_restore.specs.Chain.{set_back}
use Rattle.context_restore.proofs.chain.set_back.Given as goal

abbrev pub invariant-loop-step : goal.invariant-loop-step
invariant-loop-step l = set_back l.nodes (l.fn.count - l.step) l.at l.set.items ≡ set_back l.nodes l.fn.count l.fn.head l.fn.newest
