use Rattle.std.proofs.Common.{◌≡◌, ◌+◌, [], length}
use Rattle.asn1_types.specs.Writing.{digits_256, base_256}
use Rattle.ber_writing.proofs.length.base_256_len.Given as goal

abbrev pub decreases-loop-high : goal.decreases-loop-high
decreases-loop-high l = l.high

abbrev pub invariant-loop-high : goal.invariant-loop-high
invariant-loop-high l = l.count + length (digits_256 l.high l.high []) ≡ length (base_256 l.number)
