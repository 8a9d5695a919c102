use Rattle.std.proofs.Common.{◌≡◌, take}
use Rattle.spdu_codec.specs.Written.{units_written}
use Rattle.spdu_codec.proofs.writing.units_written.Given as goal

abbrev pub invariant-loop-word : goal.invariant-loop-word
invariant-loop-word l = l.out ≡ units_written (take l.word-index l.word-items)
