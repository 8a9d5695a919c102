use Rattle.std.proofs.Common.{◌≡◌, length}
use Rattle.schedule_text.specs.Events.{no_draft}
use Rattle.schedule_text.specs.Schedules.{lines_read}
use Rattle.schedule_text.proofs.schedule.read_lines.Given as goal

abbrev pub invariant-lines : goal.invariant-lines
invariant-lines l =
    lines_read l.modes l.tables no_draft l.fn.lines.number l.fn.lines.lines ≡ lines_read l.modes l.tables l.draft l.lines.number l.lines.lines

abbrev pub decreases-lines : goal.decreases-lines
decreases-lines l = length l.lines.lines
