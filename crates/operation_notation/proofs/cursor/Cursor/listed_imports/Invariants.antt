use Rattle.std.proofs.Common.{◌<◌, List, codes, length}
use Rattle.notation_tokens.specs.Lexeme.{begins}
use Rattle.operation_notation.specs.GrammarTypes.{narrow}
use Rattle.operation_notation.specs.Reading.{behind, all_at}
use Rattle.operation_notation.specs.ReadingModules.{imported_at}
use Rattle.notation_tokens.specs.declared.token.Place.{Place}
use Rattle.operation_notation.proofs.Loops.{Going}
use Rattle.operation_notation.proofs.cursor.Cursor.listed_imports.Given as goal

abbrev pub invariant-loop-self : goal.invariant-loop-self
invariant-loop-self l = record {
  seen : List Place;
  going : Going (begins (codes ",")) (behind (codes ",") (imported_at narrow)) seen l.self (all_at (begins (codes ",")) (behind (codes ",") (imported_at narrow)) l.initial.self);
  shorter : length l.self < length l.fn.self;
}

abbrev pub decreases-loop-self : goal.decreases-loop-self
decreases-loop-self l = length l.self
