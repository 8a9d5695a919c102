use Rattle.std.proofs.Common.{◌≡◌, ◌+◌, length}
use Rattle.two_ends.proofs.Given.{Given}
use Rattle.two_ends.proofs.giving.give_most.Given as goal

abbrev pub invariant-loop-octets : goal.invariant-loop-octets
invariant-loop-octets g l = Given g.E.RunEnd.conduct l.fn.end l.end l.octets × (length l.octets + l.left ≡ l.fn.most)

abbrev pub decreases-loop-octets : goal.decreases-loop-octets
decreases-loop-octets g l = length (g.E.RunEnd.conduct.waiting l.end)
