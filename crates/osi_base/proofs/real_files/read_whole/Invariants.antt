use Rattle.std.proofs.Common.{◌≤◌, length}
use Rattle.std.specs.Io.KnownBytes.{Consumes}
use Rattle.osi_base.specs.Limits.{file_most}
use Rattle.osi_base.proofs.real_files.read_whole.Given as goal

abbrev pub invariant-loop : goal.invariant-loop
invariant-loop g l = (length l.contents ≤ file_most) × Consumes (g.T.Read.remaining l.fn.file) (g.T.Read.remaining l.file) l.contents
