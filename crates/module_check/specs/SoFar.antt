-- The words of a check so far.
use Rattle.std.specs.Prelude.{ℕ, List, Option}
use Rattle.std.specs.Option.{option_copied}
use Rattle.module_check.specs.declared.command.SoFar.{SoFar}
use Rattle.module_check.specs.Command.{Check, check_words}

-- the check that those so far and these words give
abbrev pub check_from : SoFar → List (List ℕ) → Option Check
check_from s words = check_words s.ended s.table (option_copied s.«module») words
