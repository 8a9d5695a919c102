-- The program as a process: arguments in, the number of its status out.
use Rattle.std.specs.Prelude.{ℕ, ◌≡◌, List, [], Option, map, drop, string_bytes}
use Rattle.osi_base.specs.Outside.{FileMap}
use Rattle.osi_base.specs.declared.layer_words.Status.{Status}
use Rattle.osi_commands.specs.declared.process.Arguments.{Arguments}
use Rattle.osi_commands.specs.declared.process.Arguments.TheVariants.{Given, NotText, Unread}
use Rattle.osi_commands.specs.Statuses.{exit_code}
use Rattle.osi_commands.specs.Commands.{command_of}
use Rattle.osi_commands.specs.TopCall.{CommandCloses, AskedAtEnd}

-- the words that arguments give: all but the first, which is the program's name; none where one is no text
abbrev pub words_given : Arguments → List (List ℕ)
words_given (Given arguments) = map (λ argument. string_bytes argument) (drop 1 arguments.items)
words_given NotText = []
words_given Unread = []

-- The process ends with the number of the status with which the top call ends for these words; the names of files that were
-- asked for are `first` before the call and `last` after it.
pub record Exits (told : Option FileMap) (old new : ℕ) (words : List (List ℕ)) (first last : Option (List (List ℕ))) (sink_old sink_new : ℕ) (before after : Option (List ℕ)) (code : ℕ) : Type 0 where
  pub status : Status
  pub closes : CommandCloses told old new (command_of words) sink_old sink_new before after status
  pub asked : AskedAtEnd (command_of words) first last status
  pub code_is : code ≡ exit_code status
