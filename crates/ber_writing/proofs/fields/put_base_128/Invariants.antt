use Rattle.std.proofs.Common.{◌≡◌, ◌+◌, ◌++◌, [], drop, length}
use Rattle.asn1_types.specs.Writing.{high_digits, base_128}
use Rattle.ber_writing.proofs.fields.put_base_128.Given as goal

abbrev pub decreases-loop-high : goal.decreases-loop-high
decreases-loop-high l = l.high

abbrev pub invariant-loop-high : goal.invariant-loop-high
invariant-loop-high l = record {
  place : l.start + length (base_128 l.number) ≡ l.end + length (high_digits l.high l.high []);
  put : high_digits l.high l.high (drop l.start l.room) ≡ base_128 l.number ++ drop l.end l.fn.room;
}
