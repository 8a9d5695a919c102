use Rattle.std.proofs.Common.{◌≡◌, ◌≤◌, ◌-◌, [], length, drop}
use Rattle.value_reading.specs.Forms.{bit_octets}
use Rattle.value_reading.proofs.form.read_bits.Given as goal

abbrev pub invariant-loop-place : goal.invariant-loop-place
invariant-loop-place l = (bit_octets [] l.fn.digits ≡ bit_octets l.octets (drop l.place l.digits)) × (l.place ≤ length l.digits)

abbrev pub decreases-loop-place : goal.decreases-loop-place
decreases-loop-place l = length l.digits - l.place
