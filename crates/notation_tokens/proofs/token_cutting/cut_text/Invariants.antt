use Rattle.std.proofs.Common.{◌≡◌, ◌≤◌, ◌+◌, length}
use Rattle.notation_tokens.specs.Lexing.{lexed_of}
use Rattle.notation_tokens.proofs.Cutting.{Cutting}
use Rattle.notation_tokens.proofs.token_cutting.cut_text.Given as goal

abbrev pub invariant-loop-rest : goal.invariant-loop-rest
invariant-loop-rest l = record {
  cutting : Cutting l.tokens l.from l.place l.rest (lexed_of l.text);
  counted : l.from + length l.rest ≡ length l.text;
  line : l.place.line ≤ l.from + 1;
  column : l.place.column ≤ l.from + 1;
}

abbrev pub decreases-loop-rest : goal.decreases-loop-rest
decreases-loop-rest l = length l.rest
