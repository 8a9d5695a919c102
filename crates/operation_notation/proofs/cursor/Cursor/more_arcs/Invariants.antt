use Rattle.std.proofs.Common.{◌≤◌, ◌-◌, ◌≡◌, codes, length}
use Rattle.osi_base.specs.Limits.{most_32}
use Rattle.notation_tokens.specs.Lexeme.{goes_on}
use Rattle.operation_notation.specs.Reading.{many_at}
use Rattle.operation_notation.specs.ReadingTypes.{arc_at}
use Rattle.operation_notation.proofs.Loops.{with_front}
use Rattle.operation_notation.proofs.cursor.Cursor.more_arcs.Given as goal

abbrev pub invariant-loop : goal.invariant-loop
invariant-loop l = record {
  so_far : with_front l.arcs (many_at (goes_on (codes "}")) (arc_at most_32) (30 - l.counter) l.self) ≡ many_at (goes_on (codes "}")) (arc_at most_32) 30 l.fn.self;
  counted : length l.arcs ≡ l.counter;
  shorter : length l.self ≤ length l.fn.self;
}
