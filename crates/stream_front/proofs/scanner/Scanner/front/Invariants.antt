use Rattle.std.proofs.Common.{◌-◌, length}
use Rattle.stream_front.specs.Resuming.{HasSeen}
use Rattle.stream_front.proofs.scanner.Scanner.front.Given as goal

abbrev pub invariant-loop-octet : goal.invariant-loop-octet
invariant-loop-octet l = HasSeen l.self l.octets

abbrev pub decreases-loop-octet : goal.decreases-loop-octet
decreases-loop-octet l = length l.octets - l.self.seen
