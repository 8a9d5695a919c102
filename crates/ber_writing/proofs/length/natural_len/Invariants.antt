use Rattle.std.proofs.Common.{◌≡◌, ◌+◌, [], length}
use Rattle.asn1_types.specs.Writing.{natural_octets}
use Rattle.ber_writing.proofs.length.natural_len.Given as goal

abbrev pub decreases-loop-high : goal.decreases-loop-high
decreases-loop-high l = l.high

abbrev pub invariant-loop-high : goal.invariant-loop-high
invariant-loop-high l = l.count + length (natural_octets l.high l.high []) ≡ length (natural_octets l.number l.number []) + 1
