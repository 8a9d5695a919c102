use Rattle.std.proofs.Common.{◌≡◌, ◌+◌, [], length}
use Rattle.asn1_types.specs.Writing.{high_digits, base_128}
use Rattle.ber_writing.proofs.length.base_128_len.Given as goal

abbrev pub decreases-loop-high : goal.decreases-loop-high
decreases-loop-high l = l.high

abbrev pub invariant-loop-high : goal.invariant-loop-high
invariant-loop-high l = l.count + length (high_digits l.high l.high []) ≡ length (base_128 l.number)
