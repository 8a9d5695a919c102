use Rattle.std.proofs.Common.{length}
use Rattle.two_ends.proofs.Given.{Given}
use Rattle.two_ends.proofs.giving.give_all.Given as goal

abbrev pub invariant-loop-octets : goal.invariant-loop-octets
invariant-loop-octets g l = Given g.E.RunEnd.conduct l.fn.end l.end l.octets

abbrev pub decreases-loop-octets : goal.decreases-loop-octets
decreases-loop-octets g l = length (g.E.RunEnd.conduct.waiting l.end)
