use Rattle.std.proofs.Common.{◌≡◌, reverse, take}
use Rattle.association_sets.specs.end_rules.State.{joined}
use Rattle.association_pieces.proofs.transfer_pieces.join.Given as goal

abbrev pub invariant-loop-piece : goal.invariant-loop-piece
invariant-loop-piece l = l.octets ≡ joined (reverse (take l.piece-index l.pieces))
