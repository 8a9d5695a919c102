use Rattle.std.proofs.Common.{◌≡◌, ◌++◌, drop}
use Rattle.association_reading.specs.Front as reading
use Rattle.association_intake.specs.Seen.{seen_fronts, ArePlaced}
use Rattle.association_intake.proofs.packets.push_packets.Given as goal

abbrev pub invariant-loop-packet : goal.invariant-loop-packet
invariant-loop-packet l = record {
  rest : seen_fronts l.fronts.items ++ reading.all_fronts (drop l.packet-index l.packets) ≡ seen_fronts l.initial.fronts.items ++ reading.all_fronts l.packets;
  placed : ArePlaced l.fronts.items;
}
