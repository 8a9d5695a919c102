use Rattle.std.proofs.Common.{◌≡◌, length}
use Rattle.script_lines.specs.Lines.{lines_of}
use Rattle.schedule_text.specs.Schedules.{names_a_mode}
use Rattle.schedule_text.proofs.schedule.names_a_mode.Given as goal

abbrev pub invariant-loop-line : goal.invariant-loop-line
invariant-loop-line l = names_a_mode (lines_of l.text) ≡ names_a_mode l.lines.lines

abbrev pub decreases-loop-line : goal.decreases-loop-line
decreases-loop-line l = length l.lines.lines
