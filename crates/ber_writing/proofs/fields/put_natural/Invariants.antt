use Rattle.std.proofs.Common.{◌≡◌, ◌+◌, ◌++◌, [], drop, length}
use Rattle.asn1_types.specs.Writing.{natural_octets}
use Rattle.ber_writing.proofs.fields.put_natural.Given as goal

abbrev pub decreases-loop-high : goal.decreases-loop-high
decreases-loop-high l = l.high

abbrev pub invariant-loop-high : goal.invariant-loop-high
invariant-loop-high l = record {
  place : l.start + length (natural_octets l.number l.number []) ≡ l.end + length (natural_octets l.high l.high []);
  put : natural_octets l.high l.high (drop l.start l.room) ≡ natural_octets l.number l.number [] ++ drop l.end l.fn.room;
}
