use Rattle.std.proofs.Common.{length}
use Rattle.bare_end.proofs.Fed.{ReadsOn}
use Rattle.bare_end.proofs.end.End.read_all.Given as goal

abbrev pub invariant-loop-more : goal.invariant-loop-more
invariant-loop-more l = ReadsOn l.fn.self l.self l.fn.shown l.shown

abbrev pub decreases-loop-more : goal.decreases-loop-more
decreases-loop-more l = length l.self.rest
