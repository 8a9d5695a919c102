use Rattle.std.proofs.Common.{take}
use Rattle.stream_front.specs.Resuming.{HasSeen}
use Rattle.layer_bench.proofs.scans.whole_at.Given as goal

abbrev pub invariant-loop-end : goal.invariant-loop-end
invariant-loop-end l = HasSeen l.scanner (take l.end l.octets)
