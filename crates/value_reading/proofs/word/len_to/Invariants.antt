use Rattle.std.proofs.Common.{◌≡◌, ◌+◌, drop}
use Rattle.value_reading.specs.Words.{len_to}
use Rattle.value_reading.proofs.word.len_to.Given as goal

abbrev pub invariant-loop-place : goal.invariant-loop-place
invariant-loop-place l = l.place + len_to l.mark (drop l.place l.text) ≡ len_to l.mark l.text
