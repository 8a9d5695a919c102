-- The law of answers.
use Rattle.std.specs.Prelude.{ℕ, ◌≡◌, Option, Some}
use Rattle.osi_base.specs.Outside.{FileMap, IsCalm}
use Rattle.osi_commands.specs.declared.answers.Answer.{Answer}
use Rattle.osi_commands.specs.Commands.{Command}
use Rattle.osi_commands.specs.TopCall.{IsAnswer}

-- Words have one answer over told files that don't fail.
abbrev pub OneAnswer : Type 0
OneAnswer = (map : FileMap) (old new : ℕ) (command : Option Command) (first second : Answer) → IsCalm old new
    → IsAnswer (Some map) old new command first → IsAnswer (Some map) old new command second → first ≡ second
