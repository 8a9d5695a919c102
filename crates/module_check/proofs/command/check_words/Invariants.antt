use Rattle.std.proofs.Common.{◌≡◌, drop, false, None}
use Rattle.module_check.specs.Command.{check_words}
use Rattle.module_check.specs.SoFar.{check_from}
use Rattle.module_check.proofs.command.check_words.Given as goal

abbrev pub invariant-loop-word : goal.invariant-loop-word
invariant-loop-word l = check_words false false None l.words ≡ check_from l.so_far (drop l.word-index l.words)
