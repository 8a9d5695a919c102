use Rattle.std.proofs.Common.{◌≡◌, ◌+◌, ◌≤◌, min, drop, length}
use Rattle.std.specs.List.{flat_map}
use Rattle.osi_base.specs.Limits.{last_count}
use Rattle.packed_codec.specs.ObjectIds.{base_128}
use Rattle.packed_codec.proofs.measure.of_each.Given as goal

abbrev pub invariant-loop-number : goal.invariant-loop-number
invariant-loop-number l = record {
  few : l.size ≤ last_count;
  so_far : min (l.size + length (flat_map base_128 (drop l.number-index l.numbers))) last_count ≡ min (length (flat_map base_128 l.numbers)) last_count;
}
