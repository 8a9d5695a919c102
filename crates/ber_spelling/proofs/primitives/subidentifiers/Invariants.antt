use Rattle.std.proofs.Common.{◌≡◌, ◌≤◌, ◌^◌, false, drop}
use Rattle.ber_spelling.specs.Primitives.{subidentifiers_of}
use Rattle.ber_spelling.proofs.Arcs.{behind}
use Rattle.ber_spelling.proofs.primitives.subidentifiers.Given as goal

abbrev pub invariant-loop-digit : goal.invariant-loop-digit
invariant-loop-digit l = record {
  small : l.number ≤ 2 ^ 40;
  so_far : behind l.found.items (subidentifiers_of l.number l.begun (drop l.digit-index l.octets)) ≡ subidentifiers_of 0 false l.octets;
}
