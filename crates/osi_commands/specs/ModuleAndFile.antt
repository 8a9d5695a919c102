-- The commands `replay` and `trace`: what words and files make the program answer, and why it ends as it does.
use Rattle.std.specs.Prelude.{ℕ, Bool, ◌≡◌, ◌≢◌, ◌⊎◌, List, Option, None, Some, Result, Ok, Err, IfSome}
use Rattle.osi_base.specs.Outside.{IsCalm, FileMap, grown}
use Rattle.osi_base.specs.declared.layer_words.Status.{Status}
use Rattle.osi_base.specs.declared.layer_words.Status.TheVariants.{Done, Usage, ReadFault, ModuleRefused, ScriptRefused}
use Rattle.stub_tables.specs.declared.tables.Tables.{Tables}
use Rattle.dialogue.specs.declared.event.Transcript.{Transcript}
use Rattle.module_reading.specs.declared.fault.ModuleKind.{ModuleKind}
use Rattle.module_reading.specs.declared.fault.ModuleFault.TheVariants as faults
use Rattle.module_reading.specs.Modules.{HasTables, IsRefused}
use Rattle.script_lines.specs.declared.fault.ScriptFault.{ScriptFault}
use Rattle.script_lines.specs.declared.fault.ScriptFault.TheVariants.{At}
use Rattle.script_lines.specs.declared.fault.ScriptKind.{ScriptKind}
use Rattle.replays.specs.schedule_text.Schedules.{Said, schedule_of}
use Rattle.replays.specs.Runs.{RanSchedule}
use Rattle.trace_file.specs.declared.fault.RecordingKind.{RecordingKind}
use Rattle.trace_file.specs.declared.fault.RecordingFault.{RecordingFault}
use Rattle.trace_file.specs.declared.fault.RecordingFault.TheVariants as recording_faults
use Rattle.trace_file.specs.declared.reading.Recorded.{Recorded}
use Rattle.trace_file.specs.Reading.{recording_of}
use Rattle.trace_text.specs.Trace.{TraceTextOf}
use Rattle.osi_commands.specs.declared.answers.Answer.{Answer}
use Rattle.osi_commands.specs.declared.commands.Work.{Work}
use Rattle.osi_commands.specs.declared.commands.Work.TheVariants.{Replay, Trace}
use Rattle.osi_commands.specs.declared.reading.TwoFilesRead.TheVariants.{Answered, Whole}
use Rattle.osi_commands.specs.Commands.{TwoFiles}
use Rattle.osi_commands.specs.Answers.{script_answer, IsUnless}
use Rattle.osi_commands.specs.Reading.{WasRead, ReadsTwoFiles, HasModule}
use Rattle.osi_commands.specs.Causes.{IsUnread, IsRefusedModule, HasNoTables}
use Rattle.osi_commands.specs.Replaying.{every_mode, written_of, Replayed, ReplayedBy}
use Rattle.osi_commands.specs.Tracing.{script_kind, TracedBy}

-- ---- the whole of it

-- what is answered to the octets of the second file
abbrev pub SecondBy : Work → Tables → List ℕ → Answer → Type 0
SecondBy (Replay brief) tables octets answer = ReplayedBy brief tables octets answer
SecondBy Trace tables octets answer = TracedBy tables octets answer

-- What a replay or a trace is answered, by the told files and their count of faults, before and after: what reading them
-- came to, or what is answered to the second file by the module's tables.
pub data AnswersTwoFiles (told : Option FileMap) (old new : ℕ) (named : TwoFiles) : Answer → Type 0 where
  refuses : (answer : Answer) → ReadsTwoFiles told old new named (Answered answer) → AnswersTwoFiles told old new named answer
  works : (tables : Tables) (octets : List ℕ) (answer : Answer) → ReadsTwoFiles told old new named (Whole tables octets)
      → SecondBy named.work tables octets answer → AnswersTwoFiles told old new named answer

-- ---- what each status says

-- what was written of a schedule that was run, or of a recording
pub record IsReplayed (brief : Bool) (tables : Tables) (octets text : List ℕ) : Type 0 where
  pub schedule : Said
  pub reads : schedule_of every_mode tables octets ≡ Ok schedule
  pub replayed : Replayed brief tables schedule text

pub record IsTraced (tables : Tables) (octets text : List ℕ) : Type 0 where
  pub recorded : List Recorded
  pub reads : recording_of octets ≡ Ok recorded
  pub trace : TraceTextOf tables recorded text

abbrev pub IsWorked : Work → Tables → List ℕ → List ℕ → Type 0
IsWorked (Replay brief) tables octets text = IsReplayed brief tables octets text
IsWorked Trace tables octets text = IsTraced tables octets text

-- Done: the module was read and has tables, the second file was read, and what was written is what came of its run, or what
-- it says.
pub record IsWorkDone (told : Option FileMap) (old new : ℕ) (named : TwoFiles) (before after : Option (List ℕ)) : Type 0 where
  pub «module» : List ℕ
  pub module_read : WasRead told old new named.«module» (Some «module»)
  pub tables : Tables
  pub has : HasTables «module» tables
  pub octets : List ℕ
  pub second_read : WasRead told old new named.second (Some octets)
  pub text : List ℕ
  pub worked : IsWorked named.work tables octets text
  pub written : after ≡ grown before text

-- The same of a replay that is done, whose run is told here: the module was read and has tables, the schedule was read, and two new
-- ends with its configurations ran its events. The run keeps all laws of its mode, what was written tells it, whole or in brief, and
-- every such run of the schedule has this transcript.
pub record IsReplayDone (told : Option FileMap) (old new : ℕ) (named : TwoFiles) (brief : Bool) (before after : Option (List ℕ)) : Type 0 where
  pub «module» : List ℕ
  pub module_read : WasRead told old new named.«module» (Some «module»)
  pub tables : Tables
  pub has : HasTables «module» tables
  pub octets : List ℕ
  pub second_read : WasRead told old new named.second (Some octets)
  pub schedule : Said
  pub reads : schedule_of every_mode tables octets ≡ Ok schedule
  pub transcript : Transcript
  pub ran : RanSchedule tables schedule transcript
  pub only : (other : Transcript) → RanSchedule tables schedule other → other ≡ transcript
  pub written : after ≡ grown before (written_of brief tables transcript)

-- the first faulty line of a schedule, or of a recording
pub record IsBadSchedule (tables : Tables) (octets text : List ℕ) : Type 0 where
  pub line : ℕ
  pub kind : ScriptKind
  pub fault : schedule_of every_mode tables octets ≡ Err (At line kind)
  pub is : text ≡ (script_answer line kind).text

pub record IsBadRecording (octets text : List ℕ) : Type 0 where
  pub line : ℕ
  pub kind : RecordingKind
  pub fault : recording_of octets ≡ Err (recording_faults.At line kind)
  pub is : text ≡ (script_answer line (script_kind kind)).text

abbrev pub IsBadSecond : Work → Tables → List ℕ → List ℕ → Type 0
IsBadSecond (Replay brief) tables octets text = IsBadSchedule tables octets text
IsBadSecond Trace tables octets text = IsBadRecording octets text

-- ScriptRefused: the module was read and has tables, the second file was read, and what was written tells its first faulty
-- line.
pub record IsWorkRefused (told : Option FileMap) (old new : ℕ) (named : TwoFiles) (before after : Option (List ℕ)) : Type 0 where
  pub «module» : List ℕ
  pub module_read : WasRead told old new named.«module» (Some «module»)
  pub tables : Tables
  pub has : HasTables «module» tables
  pub octets : List ℕ
  pub second_read : WasRead told old new named.second (Some octets)
  pub text : List ℕ
  pub bad : IsBadSecond named.work tables octets text
  pub written : after ≡ grown before text

-- ReadFault: the module isn't read; or it was read and has tables, and the second file isn't read.
abbrev pub IsWorkUnread : Option FileMap → ℕ → ℕ → TwoFiles → Option (List ℕ) → Option (List ℕ) → Type 0
IsWorkUnread told old new named before after =
    IsUnread told old new named.«module» before after ⊎ (HasModule told old new named.«module» × IsUnread told old new named.second before after)

-- ---- when each status comes

abbrev pub due_by_schedule : Result Said ScriptFault → Status
due_by_schedule (Ok schedule) = Done
due_by_schedule (Err fault) = ScriptRefused

abbrev pub due_by_recording : Result (List Recorded) RecordingFault → Status
due_by_recording (Ok recorded) = Done
due_by_recording (Err fault) = ScriptRefused

abbrev pub due_by_octets : Work → Tables → List ℕ → Status
due_by_octets (Replay brief) tables octets = due_by_schedule (schedule_of every_mode tables octets)
due_by_octets Trace tables octets = due_by_recording (recording_of octets)

-- the status that a second file is due by these tables
abbrev pub due_by_second : Work → Tables → Option (List ℕ) → Status
due_by_second work tables None = ReadFault
due_by_second work tables (Some octets) = due_by_octets work tables octets

-- a module has tables, and the status is that of the second file by them
pub record IsBySecond (map : FileMap) (named : TwoFiles) (sink_old sink_new : ℕ) (status : Status) (text : List ℕ) : Type 0 where
  pub tables : Tables
  pub has : HasTables text tables
  pub by : IsUnless sink_old sink_new (due_by_second named.work tables (map named.second)) status

-- Over a told map whose files didn't fail: a module that is missing isn't read, one that has a fault is refused, and so is one without
-- tables. One that has tables ends as the second file is due by them. Any module that is there is refused, or has tables.
pub record IsWorkDue (map : FileMap) (named : TwoFiles) (sink_old sink_new : ℕ) (status : Status) : Type 0 where
  pub no_module : map named.«module» ≡ None → IsUnless sink_old sink_new ReadFault status
  pub no_tables : (text : List ℕ) → map named.«module» ≡ Some text → HasNoTables text → IsUnless sink_old sink_new ModuleRefused status
  pub fault : (text : List ℕ) (line column : ℕ) (kind : ModuleKind) → map named.«module» ≡ Some text → IsRefused text (faults.At line column kind) → IsUnless sink_old sink_new ModuleRefused status
  pub by_second : (text : List ℕ) (tables : Tables) → map named.«module» ≡ Some text → HasTables text tables
      → IsUnless sink_old sink_new (due_by_second named.work tables (map named.second)) status
  pub there : (text : List ℕ) → map named.«module» ≡ Some text
      → IsUnless sink_old sink_new ModuleRefused status ⊎ IsBySecond map named sink_old sink_new status text

-- ---- all of it

-- how the top call ends with words that are a replay or a trace
pub record WorkEnds (told : Option FileMap) (old new : ℕ) (named : TwoFiles) (sink_old sink_new : ℕ) (before after : Option (List ℕ)) (status : Status) : Type 0 where
  pub done : status ≡ Done → IsWorkDone told old new named before after
  pub read_fault : status ≡ ReadFault → IsWorkUnread told old new named before after
  pub module_refused : status ≡ ModuleRefused → IsRefusedModule told old new named.«module» before after
  pub script_refused : status ≡ ScriptRefused → IsWorkRefused told old new named before after
  pub no_usage : status ≢ Usage
  pub due : IfSome told (λ map. IsCalm old new → IsWorkDue map named sink_old sink_new status)
