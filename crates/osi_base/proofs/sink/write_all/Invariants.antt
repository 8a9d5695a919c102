use Rattle.std.proofs.Common.{length, ◌-◌, ◌≡◌, ◌≤◌, take}
use Rattle.osi_base.specs.Outside.{grown}
use Rattle.osi_base.proofs.sink.write_all.Given as goal

abbrev pub invariant-loop-written : goal.invariant-loop-written
invariant-loop-written g l =
    (l.written ≤ length l.bytes)
    × (g.O.Sink.faults l.out ≡ g.O.Sink.faults l.fn.out)
    × (g.O.Sink.told l.out ≡ grown (g.O.Sink.told l.fn.out) (take l.written l.bytes))

abbrev pub decreases-loop-written : goal.decreases-loop-written
decreases-loop-written g l = length l.bytes - l.written
