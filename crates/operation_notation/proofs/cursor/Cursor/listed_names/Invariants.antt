use Rattle.std.proofs.Common.{◌<◌, codes, length}
use Rattle.notation_tokens.specs.Lexeme.{begins}
use Rattle.operation_notation.specs.Reading.{behind, listed_at, value_name_at}
use Rattle.operation_notation.proofs.Loops.{Going}
use Rattle.operation_notation.proofs.cursor.Cursor.listed_names.Given as goal

abbrev pub invariant-loop-alloc : goal.invariant-loop-alloc
invariant-loop-alloc l = record {
  going : Going (begins (codes "|")) (behind (codes "|") value_name_at) l.names l.self (listed_at (codes "|") value_name_at l.fn.self);
  shorter : length l.self < length l.fn.self;
}

abbrev pub decreases-loop-alloc : goal.decreases-loop-alloc
decreases-loop-alloc l = length l.self
