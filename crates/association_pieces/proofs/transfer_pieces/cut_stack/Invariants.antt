use Rattle.std.proofs.Common.{◌≡◌, length}
use Rattle.association_sets.specs.end_rules.State.{joined, from_mark}
use Rattle.association_pieces.proofs.transfer_pieces.cut_stack.Given as goal

abbrev pub invariant-loop-stack : goal.invariant-loop-stack
invariant-loop-stack l = record { same : from_mark l.n l.stack ≡ from_mark l.n l.initial.stack; left : l.left ≡ length (joined l.stack) }

abbrev pub decreases-loop-stack : goal.decreases-loop-stack
decreases-loop-stack l = length l.stack
