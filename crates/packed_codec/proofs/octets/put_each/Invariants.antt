use Rattle.std.proofs.Common.{drop}
use Rattle.std.specs.List.{flat_map}
use Rattle.packed_codec.specs.ObjectIds.{base_128}
use Rattle.packed_codec.proofs.Room.{Filled}
use Rattle.packed_codec.proofs.octets.put_each.Given as goal

abbrev pub invariant-loop-number : goal.invariant-loop-number
invariant-loop-number l = Filled (flat_map base_128 l.numbers) (flat_map base_128 (drop l.number-index l.numbers)) l.at l.fn.out l.out l.behind
