use Rattle.std.proofs.Common.{◌+◌, ◌*◌, ◌<◌, codes, length}
use Rattle.notation_tokens.specs.Lexeme.{begins}
use Rattle.operation_notation.specs.GrammarTypes.{narrow}
use Rattle.operation_notation.specs.Reading.{behind, listed_at}
use Rattle.operation_notation.specs.ReadingTypes.{part_at, type_at}
use Rattle.operation_notation.proofs.Loops.{Going}
use Rattle.operation_notation.proofs.cursor.Cursor.+types.Given as goal

abbrev pub decreases-type_text : goal.decreases-type_text
decreases-type_text l = 10 * l.levels + 0

abbrev pub decreases-part : goal.decreases-part
decreases-part l = 10 * l.levels + 3

abbrev pub decreases-next_part : goal.decreases-next_part
decreases-next_part l = 10 * l.levels + 4

abbrev pub decreases-listed_parts : goal.decreases-listed_parts
decreases-listed_parts l = 10 * l.levels + 5

abbrev pub decreases-parts : goal.decreases-parts
decreases-parts l = 10 * l.levels + 6

abbrev pub decreases-alternatives : goal.decreases-alternatives
decreases-alternatives l = 10 * l.levels + 6

abbrev pub decreases-sequence : goal.decreases-sequence
decreases-sequence l = 10 * l.levels + 7

abbrev pub decreases-set : goal.decreases-set
decreases-set l = 10 * l.levels + 7

abbrev pub decreases-choice : goal.decreases-choice
decreases-choice l = 10 * l.levels + 7

abbrev pub decreases-plain : goal.decreases-plain
decreases-plain l = 10 * l.levels + 8

abbrev pub decreases-type_over : goal.decreases-type_over
decreases-type_over l = 10 * l.levels + 9

abbrev pub invariant-listed_parts-loop-alloc : goal.invariant-listed_parts-loop-alloc
invariant-listed_parts-loop-alloc l =
    let r = part_at l.may (type_at narrow l.levels) in
    record {
      going : Going (begins (codes ",")) (behind (codes ",") r) l.parts l.self (listed_at (codes ",") r l.fn.self);
      shorter : length l.self < length l.fn.self;
    }

abbrev pub decreases-listed_parts-loop-alloc : goal.decreases-listed_parts-loop-alloc
decreases-listed_parts-loop-alloc l = length l.self
