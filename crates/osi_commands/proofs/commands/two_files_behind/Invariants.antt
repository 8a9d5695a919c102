use Rattle.std.proofs.Common.{◌≡◌, drop, false, None}
use Rattle.osi_commands.specs.Commands.{two_files_behind}
use Rattle.osi_commands.specs.SoFar.{two_files_from}
use Rattle.osi_commands.proofs.commands.two_files_behind.Given as goal

abbrev pub invariant-loop-word : goal.invariant-loop-word
invariant-loop-word l = two_files_behind l.replays false false None None l.words ≡ two_files_from l.replays l.so_far (drop l.word-index l.words)
