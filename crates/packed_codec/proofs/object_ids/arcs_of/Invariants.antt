use Rattle.std.proofs.Common.{◌≡◌, ◌≤◌, ◌^◌, drop}
use Rattle.ber_spelling.specs.Primitives.{subidentifiers_of, arcs_of}
use Rattle.packed_codec.proofs.Arcs.{arcs_behind}
use Rattle.packed_codec.proofs.object_ids.arcs_of.Given as goal

abbrev pub invariant-loop-digit : goal.invariant-loop-digit
invariant-loop-digit l = record {
  small : l.number ≤ 2 ^ 40;
  so_far : arcs_behind l.arcs.items (subidentifiers_of l.number l.begun (drop l.digit-index l.octets)) ≡ arcs_of l.octets;
}
