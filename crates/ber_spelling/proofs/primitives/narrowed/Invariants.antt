use Rattle.std.proofs.Common.{◌≡◌, drop, take}
use Rattle.std.specs.List.{list_all}
use Rattle.asn1_types.specs.Fits.{has_32_bits}
use Rattle.ber_spelling.proofs.primitives.narrowed.Given as goal

abbrev pub invariant-loop-number : goal.invariant-loop-number
invariant-loop-number l = record {
  same : l.narrow.items ≡ take l.number-index l.numbers;
  so_far : list_all has_32_bits (drop l.number-index l.numbers) ≡ list_all has_32_bits l.numbers;
}
