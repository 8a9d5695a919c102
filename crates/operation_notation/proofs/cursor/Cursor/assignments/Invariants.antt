use Rattle.std.proofs.Common.{◌≤◌, codes, length}
use Rattle.notation_tokens.specs.Lexeme.{goes_on}
use Rattle.operation_notation.specs.GrammarTypes.{narrow}
use Rattle.operation_notation.specs.Reading.{all_at}
use Rattle.operation_notation.specs.ReadingModules.{assignment_at}
use Rattle.operation_notation.proofs.Loops.{Going}
use Rattle.operation_notation.proofs.cursor.Cursor.assignments.Given as goal

abbrev pub invariant-loop-alloc : goal.invariant-loop-alloc
invariant-loop-alloc l = record {
  going : Going (goes_on (codes "END")) (assignment_at narrow) l.assignments l.self (all_at (goes_on (codes "END")) (assignment_at narrow) l.fn.self);
  shorter : length l.self ≤ length l.fn.self;
}

abbrev pub decreases-loop-alloc : goal.decreases-loop-alloc
decreases-loop-alloc l = length l.self
