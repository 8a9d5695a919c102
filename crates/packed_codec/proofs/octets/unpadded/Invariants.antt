use Rattle.std.proofs.Common.{◌≡◌, ◌≤◌, length}
use Rattle.packed_codec.specs.Numbers.{unpadded}
use Rattle.packed_codec.proofs.octets.unpadded.Given as goal

abbrev pub decreases-loop-rest : goal.decreases-loop-rest
decreases-loop-rest l = length l.rest

abbrev pub invariant-loop-rest : goal.invariant-loop-rest
invariant-loop-rest l = record {
  few : length l.rest ≤ length l.octets;
  so_far : unpadded l.rest ≡ unpadded l.octets;
}
