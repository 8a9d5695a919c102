use Rattle.std.proofs.Common.{◌≡◌, ◌≤◌, ◌+◌, ◌++◌, drop, length}
use Rattle.std.specs.List.{flat_map}
use Rattle.asn1_types.specs.Writing.{base_128}
use Rattle.ber_writing.proofs.fields.put_each.Given as goal

abbrev pub decreases-loop-index : goal.decreases-loop-index
decreases-loop-index l = l.index

abbrev pub invariant-loop-index : goal.invariant-loop-index
invariant-loop-index l = record {
  within : l.index ≤ length l.numbers;
  place : l.start + length (flat_map base_128 (drop l.index l.numbers)) ≡ l.end;
  put : drop l.start l.room ≡ flat_map base_128 (drop l.index l.numbers) ++ drop l.end l.fn.room;
}
