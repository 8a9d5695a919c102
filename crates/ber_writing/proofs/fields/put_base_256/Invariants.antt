use Rattle.std.proofs.Common.{◌≡◌, ◌+◌, ◌++◌, [], drop, length}
use Rattle.asn1_types.specs.Writing.{digits_256, base_256}
use Rattle.ber_writing.proofs.fields.put_base_256.Given as goal

abbrev pub decreases-loop-high : goal.decreases-loop-high
decreases-loop-high l = l.high

abbrev pub invariant-loop-high : goal.invariant-loop-high
invariant-loop-high l = record {
  place : l.start + length (base_256 l.number) ≡ l.end + length (digits_256 l.high l.high []);
  put : digits_256 l.high l.high (drop l.start l.room) ≡ base_256 l.number ++ drop l.end l.fn.room;
}
