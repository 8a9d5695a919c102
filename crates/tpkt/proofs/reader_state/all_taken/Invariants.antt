use Rattle.std.proofs.Common.{◌≡◌, length}
use Rattle.tpkt.specs.Reader.{after, IsSoundReader}
use Rattle.tpkt.proofs.reader_state.all_taken.Given as goal

abbrev pub invariant-loop-rest : goal.invariant-loop-rest
invariant-loop-rest l = record {
  reads : after (record { packets = l.packets; held = l.held }) l.rest ≡ after (record { packets = l.fn.packets; held = l.fn.held }) l.octets;
  sound : IsSoundReader l.held;
}

abbrev pub decreases-loop-rest : goal.decreases-loop-rest
decreases-loop-rest l = length l.rest
