use Rattle.std.proofs.Common.{◌≡◌, ◌++◌, length}
use Rattle.std.specs.List.{flat_map}
use Rattle.tpkt.specs.Written.{part_packet, parts_of, written_tsdu}
use Rattle.tpkt.proofs.writer.write_tsdu.Given as goal

abbrev pub invariant-loop-rest : goal.invariant-loop-rest
invariant-loop-rest l = l.out ++ flat_map part_packet (parts_of l.most l.rest) ≡ written_tsdu l.size l.tsdu

abbrev pub decreases-loop-rest : goal.decreases-loop-rest
decreases-loop-rest l = length l.rest
