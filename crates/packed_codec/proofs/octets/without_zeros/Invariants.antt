use Rattle.std.proofs.Common.{◌≡◌, ◌≤◌, length}
use Rattle.packed_codec.specs.ObjectIds.{without_zeros}
use Rattle.packed_codec.proofs.octets.without_zeros.Given as goal

abbrev pub decreases-loop-rest : goal.decreases-loop-rest
decreases-loop-rest l = length l.rest

abbrev pub invariant-loop-rest : goal.invariant-loop-rest
invariant-loop-rest l = record {
  few : length l.rest ≤ length l.digits;
  so_far : without_zeros l.rest ≡ without_zeros l.digits;
}
