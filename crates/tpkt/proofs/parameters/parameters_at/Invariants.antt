use Rattle.std.proofs.Common.{◌-◌, ◌≡◌, ◌+◌, ◌≤◌}
use Rattle.tpkt.specs.Header.{nothing_seen, parameters_at}
use Rattle.tpkt.proofs.parameters.parameters_at.Given as goal

abbrev pub invariant-loop-done : goal.invariant-loop-done
invariant-loop-done l = record {
  in_header : l.done ≤ l.left;
  reads : parameters_at (l.left - l.done) (l.left - l.done) (11 + l.done) l.seen l.rest ≡ parameters_at l.left l.left 11 nothing_seen l.octets;
}

abbrev pub decreases-loop-done : goal.decreases-loop-done
decreases-loop-done l = l.left - l.done
