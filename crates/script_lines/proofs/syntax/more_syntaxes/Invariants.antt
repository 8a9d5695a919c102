use Rattle.std.proofs.Common.{◌≡◌, ◌-◌, [], length}
use Rattle.script_lines.specs.Syntaxes.{more_syntaxes}
use Rattle.script_lines.proofs.syntax.more_syntaxes.Given as goal

abbrev pub invariant-loop-turn : goal.invariant-loop-turn
invariant-loop-turn l = more_syntaxes l.before (length l.fn.text) [] l.fn.text ≡ more_syntaxes l.before (length l.fn.text - l._turn) l.names l.rest
