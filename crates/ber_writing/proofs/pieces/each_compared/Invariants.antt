use Rattle.std.proofs.Common.{◌≡◌, ◌≤◌, drop, length}
use Rattle.std.specs.List.{flat_map}
use Rattle.asn1_types.specs.Writing.{base_128}
use Rattle.ber_writing.specs.Comparing.{compared}
use Rattle.ber_writing.proofs.pieces.each_compared.Given as goal

abbrev pub decreases-loop-index : goal.decreases-loop-index
decreases-loop-index l = l.index

abbrev pub invariant-loop-index : goal.invariant-loop-index
invariant-loop-index l = record {
  numbers : l.index ≤ length l.numbers;
  others : l.index ≤ length l.others;
  so_far : l.order ≡ compared (flat_map base_128 (drop l.index l.numbers)) (flat_map base_128 (drop l.index l.others));
}
