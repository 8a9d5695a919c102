use Rattle.std.proofs.Common.{◌≡◌, length}
use Rattle.trace_file.specs.Reading.{more_octets}
use Rattle.trace_file.proofs.hexadecimal.push_field.Given as goal

abbrev pub invariant-loop-high : goal.invariant-loop-high
invariant-loop-high l = more_octets l.octets l.rest ≡ more_octets l.fn.octets l.field

abbrev pub decreases-loop-high : goal.decreases-loop-high
decreases-loop-high l = length l.rest
