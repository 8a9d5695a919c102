use Rattle.std.proofs.Common.{◌≡◌, reverse}
use Rattle.osi_base.specs.Lines.{shut_after}
use Rattle.osi_base.proofs.call_log.write_shuts.Given as goal

abbrev pub invariant-loop-shuts : goal.invariant-loop-shuts
invariant-loop-shuts l = shut_after l.shuts (reverse l.calls.items) ≡ shut_after l.fn.shuts (reverse l.fn.calls.items)

abbrev pub decreases-loop-shuts : goal.decreases-loop-shuts
decreases-loop-shuts l = l.shuts
