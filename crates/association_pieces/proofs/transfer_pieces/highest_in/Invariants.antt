use Rattle.std.proofs.Common.{◌≡◌, drop}
use Rattle.association_sets.specs.end_rules.State.{highest}
use Rattle.association_pieces.proofs.transfer_pieces.highest_in.Given as goal

abbrev pub invariant-loop-place : goal.invariant-loop-place
invariant-loop-place l = highest (drop l.place l.stack) ≡ highest l.stack
