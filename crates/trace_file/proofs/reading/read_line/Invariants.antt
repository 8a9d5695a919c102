use Rattle.std.proofs.Common.{◌≡◌, length, drop}
use Rattle.trace_file.specs.Lines.{pieces_of}
use Rattle.trace_file.specs.Reading.{line_at, line_of}
use Rattle.trace_file.proofs.reading.read_line.Given as goal

abbrev pub invariant-loop-field : goal.invariant-loop-field
invariant-loop-field l = line_at l.from l.octets (drop (length l.yielded) (pieces_of l.line)) ≡ line_of l.line
