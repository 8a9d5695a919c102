use Rattle.std.proofs.Common.{◌≡◌, length}
use Rattle.spdu_codec.specs.Tables.{row_of}
use Rattle.spdu_codec.proofs.kind.row_of.Given as goal

abbrev pub invariant-loop-rows : goal.invariant-loop-rows
invariant-loop-rows g l = row_of l.code l.rows ≡ row_of l.code l.table

abbrev pub decreases-loop-rows : goal.decreases-loop-rows
decreases-loop-rows g l = length l.rows
