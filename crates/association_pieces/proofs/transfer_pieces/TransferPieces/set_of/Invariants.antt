use Rattle.std.proofs.Common.{◌≡◌, drop}
use Rattle.association_sets.specs.end_rules.State.{from_mark, newest_set}
use Rattle.association_pieces.proofs.transfer_pieces.TransferPieces.set_of.Given as goal

abbrev pub invariant-loop-place : goal.invariant-loop-place
invariant-loop-place l = newest_set (from_mark l.n (drop l.place l.self-inside.stack)) ≡ newest_set (from_mark l.n l.self-inside.stack)
