-- What is answered to a second file, case by case.
use Rattle.std.proofs.Common.{ℕ, ◌≡◌, List, Option, Result, Ok, Err, Bool, refl, sym, ap, subst}
use Rattle.osi_base.specs.Outside.{logged}
use Rattle.stub_tables.specs.declared.tables.Tables.{Tables}
use Rattle.script_lines.specs.declared.fault.ScriptFault.{ScriptFault}
use Rattle.script_lines.specs.declared.fault.ScriptFault.TheVariants.{At, NoMemory}
use Rattle.script_lines.specs.declared.fault.ScriptKind.{ScriptKind}
use Rattle.replays.specs.schedule_text.declared.setting.Modes.{Modes}
use Rattle.replays.specs.schedule_text.Laws.{SchedulesAreRun}
use Rattle.schedule_ends.specs.Ends.{HasEnds}
use Rattle.replays.specs.Runs.{IsSetUp}
use Rattle.replays.specs.schedule_text.Schedules.{Said, schedule_of}
use Rattle.trace_file.specs.declared.fault.RecordingKind.{RecordingKind}
use Rattle.trace_file.specs.declared.fault.RecordingFault.{RecordingFault}
use Rattle.trace_file.specs.declared.fault.RecordingFault.TheVariants as recording_faults
use Rattle.trace_file.specs.declared.reading.Recorded.{Recorded}
use Rattle.trace_file.specs.Reading.{recording_of}
use Rattle.trace_text.specs.Trace.{TraceTextOf}
use Rattle.osi_commands.specs.declared.answers.Answer.{Answer}
use Rattle.osi_commands.specs.declared.commands.Work.{Work}
use Rattle.osi_commands.specs.declared.commands.Work.TheVariants.{Replay, Trace}
use Rattle.osi_commands.specs.Commands.{TwoFiles}
use Rattle.osi_commands.specs.Answers.{script_answer, done_answer}
use Rattle.osi_commands.specs.Reading.{TwoFilesAsked}
use Rattle.osi_commands.specs.Replaying.{every_mode, Replayed, RepliedBy, ReplayedBy}
use Rattle.osi_commands.specs.Tracing.{script_kind, ToldBy, TracedBy}
use Rattle.osi_commands.specs.ModuleAndFile.{SecondBy, IsWorked, IsBadSecond, due_by_schedule, due_by_recording, due_by_octets}

-- ---- from the steps of the code

-- a schedule that is read is one that can be run
pub is_set_up : SchedulesAreRun → (tables : Tables) (octets : List ℕ) (s : Said) → ((modes : Modes) (text : List ℕ) → schedule_of modes tables text ≡ Ok s → HasEnds modes tables s) → schedule_of every_mode tables octets ≡ Ok s → IsSetUp s
is_set_up law tables octets s ends e =
    let has : HasEnds every_mode tables s = ends every_mode octets e in
    record { meet = (law every_mode tables octets s e).meet; of_a = has.of_a; of_b = has.of_b; events = has.events }

pub replayed_ok : (brief : Bool) (tables : Tables) (octets : List ℕ) (schedule : Said) (text : List ℕ) (answer : Answer) → schedule_of every_mode tables octets ≡ Ok schedule → Replayed brief tables schedule text
    → answer ≡ done_answer text → ReplayedBy brief tables octets answer
replayed_ok brief tables octets schedule text answer e h a = let P : Result Said ScriptFault → Type 0 = λ r. RepliedBy brief tables r answer in subst P (sym e) (text, h, a)

pub replayed_err : (brief : Bool) (tables : Tables) (octets : List ℕ) (number : ℕ) (kind : ScriptKind) (answer : Answer) → schedule_of every_mode tables octets ≡ Err (At number kind)
    → answer ≡ script_answer number kind → ReplayedBy brief tables octets answer
replayed_err brief tables octets number kind answer e a = let P : Result Said ScriptFault → Type 0 = λ r. RepliedBy brief tables r answer in subst P (sym e) a

pub traced_ok : (tables : Tables) (octets : List ℕ) (told : List Recorded) (text : List ℕ) (answer : Answer) → recording_of octets ≡ Ok told → TraceTextOf tables told text
    → answer ≡ done_answer text → TracedBy tables octets answer
traced_ok tables octets told text answer e h a = let P : Result (List Recorded) RecordingFault → Type 0 = λ r. ToldBy tables r answer in subst P (sym e) (text, h, a)

pub traced_err : (tables : Tables) (octets : List ℕ) (number : ℕ) (kind : RecordingKind) (answer : Answer) → recording_of octets ≡ Err (recording_faults.At number kind)
    → answer ≡ script_answer number (script_kind kind) → TracedBy tables octets answer
traced_err tables octets number kind answer e a = let P : Result (List Recorded) RecordingFault → Type 0 = λ r. ToldBy tables r answer in subst P (sym e) a

-- ---- each way in which it is answered

pub data SecondCase (work : Work) (tables : Tables) (octets : List ℕ) : Answer → Type 0 where
  worked : (text : List ℕ) → IsWorked work tables octets text → SecondCase work tables octets (done_answer text)
  bad : (number : ℕ) (kind : ScriptKind) → IsBadSecond work tables octets (script_answer number kind).text → SecondCase work tables octets (script_answer number kind)

along : (work : Work) (tables : Tables) (octets : List ℕ) (made answer : Answer) → answer ≡ made → SecondCase work tables octets made → SecondCase work tables octets answer
along work tables octets made answer e c = let P : Answer → Type 0 = λ a. SecondCase work tables octets a in subst P (sym e) c

by_schedule : (brief : Bool) (tables : Tables) (octets : List ℕ) (answer : Answer) (r : Result Said ScriptFault) → schedule_of every_mode tables octets ≡ r → RepliedBy brief tables r answer → SecondCase (Replay brief) tables octets answer
by_schedule brief tables octets answer (Ok schedule) e t =
    along (Replay brief) tables octets (done_answer t.0) answer t.2 (worked t.0 (record { schedule = schedule; reads = e; replayed = t.1 }))
by_schedule brief tables octets answer (Err (At number kind)) e t =
    along (Replay brief) tables octets (script_answer number kind) answer t (bad number kind (record { line = number; kind = kind; fault = e; is = refl }))
by_schedule brief tables octets answer (Err NoMemory) e t = absurd t

by_recording : (tables : Tables) (octets : List ℕ) (answer : Answer) (r : Result (List Recorded) RecordingFault) → recording_of octets ≡ r → ToldBy tables r answer → SecondCase Trace tables octets answer
by_recording tables octets answer (Ok recorded) e t =
    along Trace tables octets (done_answer t.0) answer t.2 (worked t.0 (record { recorded = recorded; reads = e; trace = t.1 }))
by_recording tables octets answer (Err (recording_faults.At number kind)) e t =
    along Trace tables octets (script_answer number (script_kind kind)) answer t
    (bad number (script_kind kind) (record { line = number; kind = kind; fault = e; is = refl }))
by_recording tables octets answer (Err recording_faults.NoMemory) e t = absurd t

pub case_of : (work : Work) (tables : Tables) (octets : List ℕ) (answer : Answer) → SecondBy work tables octets answer → SecondCase work tables octets answer
case_of (Replay brief) tables octets answer t = by_schedule brief tables octets answer (schedule_of every_mode tables octets) refl t
case_of Trace tables octets answer t = by_recording tables octets answer (recording_of octets) refl t

-- ---- the status that is due

due_schedule : (brief : Bool) (tables : Tables) (answer : Answer) (r : Result Said ScriptFault) → RepliedBy brief tables r answer → answer.status ≡ due_by_schedule r
due_schedule brief tables answer (Ok schedule) t = ap (λ (a : Answer). a.status) t.2
due_schedule brief tables answer (Err (At number kind)) t = ap (λ (a : Answer). a.status) t
due_schedule brief tables answer (Err NoMemory) t = absurd t

due_recording : (tables : Tables) (answer : Answer) (r : Result (List Recorded) RecordingFault) → ToldBy tables r answer → answer.status ≡ due_by_recording r
due_recording tables answer (Ok recorded) t = ap (λ (a : Answer). a.status) t.2
due_recording tables answer (Err (recording_faults.At number kind)) t = ap (λ (a : Answer). a.status) t
due_recording tables answer (Err recording_faults.NoMemory) t = absurd t

pub due_second : (work : Work) (tables : Tables) (octets : List ℕ) (answer : Answer) → SecondBy work tables octets answer → answer.status ≡ due_by_octets work tables octets
due_second (Replay brief) tables octets answer t = due_schedule brief tables answer (schedule_of every_mode tables octets) t
due_second Trace tables octets answer t = due_recording tables answer (recording_of octets) t

-- ---- which files were asked for

pub asked_both : (named : TwoFiles) (tables : Tables) (octets : List ℕ) (before after : Option (List (List ℕ))) (answer : Answer) → SecondCase named.work tables octets answer
    → after ≡ logged named.second (logged named.«module» before) → TwoFilesAsked named before after answer.status
asked_both named tables octets before after _ (worked text is) both = both
asked_both named tables octets before after _ (bad number kind is) both = both
