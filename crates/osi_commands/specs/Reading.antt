-- The files of a command: what is read of them, and which are asked for.
use Rattle.std.specs.Prelude.{ℕ, ◌≡◌, ◌≤◌, ◌⊎◌, List, length, Option, None, Some, IfSome}
use Rattle.osi_base.specs.Limits.{file_most}
use Rattle.osi_base.specs.Outside.{FaultsRose, FileMap, Lacks, logged}
use Rattle.osi_base.specs.declared.layer_words.Status.{Status}
use Rattle.osi_base.specs.declared.layer_words.Status.TheVariants.{Done, ReadFault, WriteFault, ModuleRefused, ScriptRefused, NoMemory}
use Rattle.stub_tables.specs.declared.tables.Tables.{Tables}
use Rattle.packed_codec.specs.Laws.{HasNoAny}
use Rattle.module_reading.specs.declared.fault.ModuleKind.{ModuleKind}
use Rattle.module_reading.specs.declared.fault.ModuleFault.TheVariants as faults
use Rattle.module_reading.specs.Modules.{HasTables, IsRefused}
use Rattle.osi_commands.specs.declared.reading.TwoFilesRead.{TwoFilesRead}
use Rattle.osi_commands.specs.declared.reading.TwoFilesRead.TheVariants.{Answered, Whole}
use Rattle.osi_commands.specs.Commands.{TwoFiles}
use Rattle.osi_commands.specs.Answers.{unread_answer, module_answer, KeepsCount}

-- The names here: what the files tell is `told`, their count of faults `old` before the call and `new` after
-- it; the names that were asked for are `before` and `after`.

-- The files' count doesn't fall, and what they tell stays the same.
pub record KeepsFiles (told_old told_new : Option FileMap) (old new : ℕ) : Type 0 where
  pub count : old ≤ new
  pub kept : told_new ≡ told_old

-- ---- one file

-- What came of reading the file of a name: octets, which are those of a told map; or nothing, since the
-- count of faults rose or the told map lacks the name.
abbrev pub WasRead : Option FileMap → ℕ → ℕ → List ℕ → Option (List ℕ) → Type 0
WasRead told old new name (Some octets) = IfSome told (λ files. files name ≡ Some octets) × (length octets ≤ file_most)
WasRead told old new name None = FaultsRose old new ⊎ Lacks told name

-- The files' count is as it was, where octets were read.
abbrev pub KeepsCountAt : ℕ → ℕ → Option (List ℕ) → Type 0
KeepsCountAt old new None = Unit {0}
KeepsCountAt old new (Some octets) = new ≡ old

-- The file of this name was asked for once more, or no file was: by the names that were asked for before and
-- after, where they are told.
abbrev pub MayAsk : List ℕ → Option (List (List ℕ)) → Option (List (List ℕ)) → Type 0
MayAsk name before after = (after ≡ before) ⊎ (after ≡ logged name before)

-- ---- a module and a second file

-- The module was read, as `WasRead` says it, and has tables.
abbrev pub HasModule : Option FileMap → ℕ → ℕ → List ℕ → Type 0
HasModule told old new name = (text : List ℕ) × WasRead told old new name (Some text) × ((tables : Tables) × HasTables text tables)

-- what comes of reading the second file, behind a module with these tables
pub data ReadsSecond (tables : Tables) (told : Option FileMap) (old new : ℕ) (name : List ℕ) : TwoFilesRead → Type 0 where
  no_second : WasRead told old new name None → ReadsSecond tables told old new name (Answered (unread_answer name))
  second : (octets : List ℕ) → WasRead told old new name (Some octets) → ReadsSecond tables told old new name (Whole tables octets)

-- What comes of reading both: the module comes first, then the second file, and the first that is faulty decides.
pub data ReadsTwoFiles (told : Option FileMap) (old new : ℕ) (named : TwoFiles) : TwoFilesRead → Type 0 where
  -- the module isn't read
  no_module : WasRead told old new named.«module» None → ReadsTwoFiles told old new named (Answered (unread_answer named.«module»))
  -- it is refused
  refused : (text : List ℕ) (line column : ℕ) (kind : ModuleKind) → WasRead told old new named.«module» (Some text)
      → IsRefused text (faults.At line column kind) → ReadsTwoFiles told old new named (Answered (module_answer line column kind))
  -- it has tables, and the second file is read or isn't
  has_tables : (text : List ℕ) (tables : Tables) (read : TwoFilesRead) → WasRead told old new named.«module» (Some text) → HasTables text tables
      → ReadsSecond tables told old new named.second read → ReadsTwoFiles told old new named read

-- no type of the module that was read is any type
abbrev pub IsTyped : TwoFilesRead → Type 0
IsTyped (Answered answer) = Unit {0}
IsTyped (Whole tables octets) = HasNoAny tables.types

-- The files' count is as it was, unless it is answered that a file isn't read.
abbrev pub KeepsCountFor : ℕ → ℕ → TwoFilesRead → Type 0
KeepsCountFor old new (Answered answer) = KeepsCount old new answer
KeepsCountFor old new (Whole tables octets) = new ≡ old

-- ---- which files are asked for

-- The module first, and the second file only once the module was read and has tables.
abbrev pub AsksTwoFiles : Option FileMap → ℕ → ℕ → TwoFiles → Option (List (List ℕ)) → Option (List (List ℕ)) → Type 0
AsksTwoFiles told old new named before after = MayAsk named.«module» before after
    ⊎ (HasModule told old new named.«module» × (after ≡ logged named.second (logged named.«module» before)))

-- the module was asked for, and the second file behind it or not
abbrev pub AskedOneOrBoth : TwoFiles → Option (List (List ℕ)) → Option (List (List ℕ)) → Type 0
AskedOneOrBoth named before after = (after ≡ logged named.«module» before) ⊎ (after ≡ logged named.second (logged named.«module» before))

-- By the status of what is answered: the module alone, or behind it the second file. There is no answer of another status.
abbrev pub TwoFilesAsked : TwoFiles → Option (List (List ℕ)) → Option (List (List ℕ)) → Status → Type 0
TwoFilesAsked named before after ReadFault = AskedOneOrBoth named before after
TwoFilesAsked named before after ModuleRefused = after ≡ logged named.«module» before
TwoFilesAsked named before after ScriptRefused = after ≡ logged named.second (logged named.«module» before)
TwoFilesAsked named before after Done = after ≡ logged named.second (logged named.«module» before)
TwoFilesAsked named before after status = ⊥

-- the same of what was read, where octets are on their way to an answer
abbrev pub TwoFilesAskedFor : TwoFiles → Option (List (List ℕ)) → Option (List (List ℕ)) → TwoFilesRead → Type 0
TwoFilesAskedFor named before after (Answered answer) = TwoFilesAsked named before after answer.status
TwoFilesAskedFor named before after (Whole tables octets) = after ≡ logged named.second (logged named.«module» before)

-- The same of the status with which the program ends: where writing failed there was an answer, so one file or both
-- were asked for; where memory was refused it may have been before the first.
abbrev pub TwoFilesAskedAtEnd : TwoFiles → Option (List (List ℕ)) → Option (List (List ℕ)) → Status → Type 0
TwoFilesAskedAtEnd named before after WriteFault = AskedOneOrBoth named before after
TwoFilesAskedAtEnd named before after NoMemory = (after ≡ before) ⊎ AskedOneOrBoth named before after
TwoFilesAskedAtEnd named before after status = TwoFilesAsked named before after status

-- the same of a check, which asks for its module alone
abbrev pub CheckAskedAtEnd : List ℕ → Option (List (List ℕ)) → Option (List (List ℕ)) → Status → Type 0
CheckAskedAtEnd name before after NoMemory = MayAsk name before after
CheckAskedAtEnd name before after status = after ≡ logged name before
