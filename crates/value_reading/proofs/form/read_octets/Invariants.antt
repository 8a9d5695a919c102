use Rattle.std.proofs.Common.{◌≡◌, ◌-◌, [], length, drop}
use Rattle.value_reading.specs.Forms.{octets_of}
use Rattle.value_reading.proofs.form.read_octets.Given as goal

abbrev pub invariant-loop-place : goal.invariant-loop-place
invariant-loop-place l = (octets_of [] l.fn.digits ≡ octets_of l.octets (drop l.place l.digits))

abbrev pub decreases-loop-place : goal.decreases-loop-place
decreases-loop-place l = length l.digits - l.place
