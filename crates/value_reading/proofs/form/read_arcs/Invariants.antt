use Rattle.std.proofs.Common.{◌≡◌, ◌-◌, [], length}
use Rattle.value_reading.specs.Forms.{arcs_at}
use Rattle.value_reading.proofs.form.read_arcs.Given as goal

abbrev pub invariant-loop-turn : goal.invariant-loop-turn
invariant-loop-turn l = arcs_at (length l.fn.text) [] l.fn.text ≡ arcs_at (length l.fn.text - l._turn) l.arcs.items l.rest
