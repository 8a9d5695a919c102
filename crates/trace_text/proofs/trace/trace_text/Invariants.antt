use Rattle.std.proofs.Common.{ℕ, List, ◌++◌, length}
use Rattle.trace_text.specs.Trace.{Sent, nothing_sent, TraceBehind}
use Rattle.trace_text.specs.ShownSoFar.{BothStand}
use Rattle.trace_text.proofs.trace.trace_text.Given as goal

abbrev pub invariant-loop-recorded : goal.invariant-loop-recorded
invariant-loop-recorded l =
    (sent : Sent) × BothStand l.viewer.tables.now sent l.directions
    × ((more : List ℕ) → TraceBehind l.viewer.tables.now sent l.rest more → TraceBehind l.viewer.tables.now nothing_sent l.recording (l.text ++ more))

abbrev pub decreases-loop-recorded : goal.decreases-loop-recorded
decreases-loop-recorded l = length l.rest
