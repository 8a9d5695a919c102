use Rattle.std.proofs.Common.{ℕ, Bool, List, length}
use Rattle.trace_text.specs.ShownSoFar.{AllPut}
use Rattle.trace_text.proofs.direction.put_all.Given as goal

abbrev pub invariant-loop-packet : goal.invariant-loop-packet
invariant-loop-packet l = (over : Bool) (after : List ℕ) → AllPut l.viewer.tables.now l.from l.rest l.stop over l.text after → AllPut l.viewer.tables.now l.from l.packets l.stop over l.fn.text after

abbrev pub decreases-loop-packet : goal.decreases-loop-packet
decreases-loop-packet l = length l.rest
