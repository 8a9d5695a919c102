use Rattle.std.proofs.Common.{◌≡◌, [], length}
use Rattle.value_reading.specs.Forms.{characters_at}
use Rattle.value_reading.proofs.form.read_characters.Given as goal

abbrev pub invariant-loop-rest : goal.invariant-loop-rest
invariant-loop-rest l = characters_at [] l.fn.text ≡ characters_at l.characters l.rest

abbrev pub decreases-loop-rest : goal.decreases-loop-rest
decreases-loop-rest l = length l.rest
