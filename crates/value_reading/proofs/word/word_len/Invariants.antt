use Rattle.std.proofs.Common.{◌≡◌, ◌+◌, drop}
use Rattle.value_reading.specs.Words.{word_len}
use Rattle.value_reading.proofs.word.word_len.Given as goal

abbrev pub invariant-loop-place : goal.invariant-loop-place
invariant-loop-place l = l.place + word_len (drop l.place l.text) ≡ word_len l.text
