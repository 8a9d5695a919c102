-- The program's top call: what it answers to words, and which files it asks for.
use Rattle.std.specs.Prelude.{ℕ, ◌≡◌, List, Option, None, Some}
use Rattle.osi_base.specs.Outside.{FileMap, logged, grown}
use Rattle.osi_base.specs.declared.layer_words.Status.{Status}
use Rattle.osi_commands.specs.declared.answers.Answer.{Answer}
use Rattle.osi_commands.specs.Commands.{Command, checks, two_files}
use Rattle.osi_commands.specs.Answers.{usage_answer, Closes, IsBegun, CountsFiles}
use Rattle.osi_commands.specs.Reading.{MayAsk, AsksTwoFiles, TwoFilesAsked, TwoFilesAskedAtEnd, CheckAskedAtEnd}
use Rattle.osi_commands.specs.Checking.{Checks}
use Rattle.osi_commands.specs.ModuleAndFile.{AnswersTwoFiles}

-- The names here: what the files tell is `told`, their count of faults `old` before the call and `new` after
-- it; what the sink tells, and the names that were asked for, are `before` and `after`.

-- what the program answers to a command, or to words that are none
abbrev pub IsAnswer : Option FileMap → ℕ → ℕ → Option Command → Answer → Type 0
IsAnswer told old new None answer = answer ≡ usage_answer
IsAnswer told old new (Some (checks check)) answer = Checks told old new check answer
IsAnswer told old new (Some (two_files named)) answer = AnswersTwoFiles told old new named answer

-- ---- the end of a call for a command, or for words that are none

-- the answer to it is written, or a beginning of that, or there is none for want of memory
abbrev pub CommandCloses : Option FileMap → ℕ → ℕ → Option Command → ℕ → ℕ → Option (List ℕ) → Option (List ℕ) → Status → Type 0
CommandCloses told old new command sink_old sink_new before after status =
    Closes (IsAnswer told old new command) old new sink_old sink_new before after status

-- a beginning of an answer to it was written
abbrev pub IsCommandBegun : Option FileMap → ℕ → ℕ → Option Command → Option (List ℕ) → Option (List ℕ) → Type 0
IsCommandBegun told old new command before after = IsBegun (IsAnswer told old new command) old new before after

-- the files' count is as it was, unless the answer to it is that a file isn't read
abbrev pub CommandCountsFiles : Option FileMap → ℕ → ℕ → Option Command → Option (List ℕ) → Option (List ℕ) → Status → Type 0
CommandCountsFiles told old new command before after status = CountsFiles (IsAnswer told old new command) old new before after status

-- Usage: the words are no command.
pub record IsUsage (command : Option Command) (before after : Option (List ℕ)) : Type 0 where
  pub no_command : command ≡ None
  pub written : after ≡ grown before usage_answer.text

-- ---- which files are asked for

-- None where the words are no command, the module first, and a second file only once the module was read and has tables.
abbrev pub Asks : Option FileMap → ℕ → ℕ → Option Command → Option (List (List ℕ)) → Option (List (List ℕ)) → Type 0
Asks told old new None before after = after ≡ before
Asks told old new (Some (checks check)) before after = MayAsk check.«module» before after
Asks told old new (Some (two_files named)) before after = AsksTwoFiles told old new named before after

-- by the status of the answer
abbrev pub AskedBy : Option Command → Option (List (List ℕ)) → Option (List (List ℕ)) → Status → Type 0
AskedBy None before after status = after ≡ before
AskedBy (Some (checks check)) before after status = after ≡ logged check.«module» before
AskedBy (Some (two_files named)) before after status = TwoFilesAsked named before after status

-- by the status with which the program ends
abbrev pub AskedAtEnd : Option Command → Option (List (List ℕ)) → Option (List (List ℕ)) → Status → Type 0
AskedAtEnd None before after status = after ≡ before
AskedAtEnd (Some (checks check)) before after status = CheckAskedAtEnd check.«module» before after status
AskedAtEnd (Some (two_files named)) before after status = TwoFilesAskedAtEnd named before after status
