use Rattle.std.proofs.Common.{◌≡◌, ◌≤◌, length}
use Rattle.osi_base.specs.Limits.{last_serial}
use Rattle.spdu_codec.specs.Values.{more_digits}
use Rattle.spdu_codec.proofs.values.number_of.Given as goal

abbrev pub invariant-loop-digits : goal.invariant-loop-digits
invariant-loop-digits l = (more_digits l.number l.digits ≡ more_digits 0 l.value) × (l.number ≤ last_serial)

abbrev pub decreases-loop-digits : goal.decreases-loop-digits
decreases-loop-digits l = length l.digits
