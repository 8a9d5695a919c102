-- The words behind `replay` or `trace` so far.
use Rattle.std.specs.Prelude.{ℕ, Bool, List, Option}
use Rattle.std.specs.Option.{option_copied}
use Rattle.osi_commands.specs.declared.commands.SoFar.{SoFar}
use Rattle.osi_commands.specs.Commands.{TwoFiles, two_files_behind}

-- what those so far and these words give
abbrev pub two_files_from : Bool → SoFar → List (List ℕ) → Option TwoFiles
two_files_from replays s words = two_files_behind replays s.ended s.brief (option_copied s.«module») (option_copied s.second) words
