use Rattle.std.proofs.Common.{◌≡◌, ◌+◌, [], length, drop}
use Rattle.trace_file.specs.Lines.{lines_of}
use Rattle.trace_file.specs.Reading.{lines_at}
use Rattle.trace_file.proofs.reading.read_lines.Given as goal

abbrev pub invariant-loop-line : goal.invariant-loop-line
invariant-loop-line l = record {
  counted : l.number ≡ length l.yielded + 1;
  reads : lines_at l.number l.told (drop (length l.yielded) (lines_of l.text)) ≡ lines_at 1 [] (lines_of l.text);
}
