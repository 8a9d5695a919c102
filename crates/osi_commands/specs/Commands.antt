-- The command that words give.
use Rattle.std.specs.Prelude.{ℕ, Bool, true, false, not, ◌&&◌, if◌then◌else◌, List, [], ◌∷◌, Option, None, Some, is_some, codes, bytes_eq}
use Rattle.module_check.specs.Command.{Check, is_flag, check_of}
use Rattle.osi_commands.specs.declared.commands.Work.{Work}
use Rattle.osi_commands.specs.declared.commands.Work.TheVariants.{Replay, Trace}

-- a replay or a trace, by the names of its files: the module's, and that of the schedule or the recording
pub record TwoFiles : Type 0 where
  pub work : Work
  pub «module» : List ℕ
  pub second : List ℕ

pub data Command : Type 0 where
  checks : Check → Command
  two_files : TwoFiles → Command

-- what is done: a replay, whole or in brief, or else a trace
abbrev pub work_of : Bool → Bool → Work
work_of replays brief = if replays then Replay brief else Trace

-- both names stand, or one doesn't
abbrev pub named_two_files : Bool → Bool → Option (List ℕ) → Option (List ℕ) → Option TwoFiles
named_two_files replays brief None second = None
named_two_files replays brief (Some module_name) None = None
named_two_files replays brief (Some module_name) (Some second) = Some (record { work = work_of replays brief; «module» = module_name; second = second })

-- The words behind `replay` or `trace`, from the left: whether it is a replay, whether `--` ended the flags, whether `--brief`
-- stood, and the names so far. A replay takes `--brief`, at most once, in any place before a `--`; there are two names.
abbrev pub two_files_behind : Bool → Bool → Bool → Option (List ℕ) → Option (List ℕ) → List (List ℕ) → Option TwoFiles
two_files_behind replays ended brief first second [] = named_two_files replays brief first second
two_files_behind replays ended brief first second (word ∷ words) =
    if not ended && bytes_eq word (codes "--") then two_files_behind replays true brief first second words
    else (if replays && (not ended && bytes_eq word (codes "--brief")) then (if brief then None else two_files_behind replays ended true first second words)
    else (if not ended && is_flag word then None
    else (if is_some first then (if is_some second then None else two_files_behind replays ended brief first (Some word) words)
    else two_files_behind replays ended brief (Some word) second words)))

-- a replay or a trace, or nothing where the words are neither
abbrev pub two_files_of : List (List ℕ) → Option TwoFiles
two_files_of [] = None
two_files_of (word ∷ words) =
    if bytes_eq word (codes "replay") then two_files_behind true false false None None words
    else (if bytes_eq word (codes "trace") then two_files_behind false false false None None words else None)

abbrev pub or_two_files : Option Check → Option TwoFiles → Option Command
or_two_files (Some check) named = Some (checks check)
or_two_files None None = None
or_two_files None (Some named) = Some (two_files named)

-- the command, or nothing where the words aren't one
abbrev pub command_of : List (List ℕ) → Option Command
command_of words = or_two_files (check_of words) (two_files_of words)
