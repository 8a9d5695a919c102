use Rattle.std.proofs.Common.{◌≡◌, ◌++◌, take, drop, length}
use Rattle.ber_spelling.specs.Rules.{settled}
use Rattle.ber_reading.proofs.parts.settle.Given as goal

abbrev pub invariant-loop-index : goal.invariant-loop-index
invariant-loop-index l = record {
  slots : length l.found.items ≡ length l.parts;
  so_far : take l.index l.found.items ++ settled (drop l.index l.parts) (drop l.index l.found.items) ≡ settled l.parts l.fn.found.items;
}
