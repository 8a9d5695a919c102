-- A piece as it is kept, as the rules of one end see it.
use Rattle.std.specs.Prelude.{◌<◌}
use Rattle.osi_base.specs.Limits.{most_32}
use Rattle.association_sets.specs.end_rules.State as rules
use Rattle.association_pieces.specs.declared.piece.PieceNode.{PieceNode}
use Rattle.association_pieces.specs.declared.piece.PieceNode.TheVariants.{Octets, Marked}

abbrev pub seen_node : PieceNode → rules.Piece
seen_node (Octets octets) = rules.Octets octets
seen_node (Marked number set) = rules.Marked number set

-- the number of a mark isn't the last of 32 bits
abbrev pub IsFit : PieceNode → Type 0
IsFit (Octets octets) = Unit {0}
IsFit (Marked number set) = number < most_32
