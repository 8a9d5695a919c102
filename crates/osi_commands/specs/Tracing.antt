-- The trace of a recorded dialogue.
use Rattle.std.specs.Prelude.{ℕ, ◌≡◌, List, Result, Ok, Err}
use Rattle.stub_tables.specs.declared.tables.Tables.{Tables}
use Rattle.script_lines.specs.declared.fault.ScriptKind.{ScriptKind}
use Rattle.script_lines.specs.declared.fault.ScriptKind.TheVariants as kinds
use Rattle.trace_file.specs.declared.fault.RecordingKind.{RecordingKind}
use Rattle.trace_file.specs.declared.fault.RecordingKind.TheVariants as recording_kinds
use Rattle.trace_file.specs.declared.fault.RecordingFault.{RecordingFault}
use Rattle.trace_file.specs.declared.fault.RecordingFault.TheVariants as recording_faults
use Rattle.trace_file.specs.declared.reading.Recorded.{Recorded}
use Rattle.trace_file.specs.Reading.{recording_of}
use Rattle.trace_text.specs.Trace.{TraceTextOf}
use Rattle.osi_commands.specs.declared.answers.Answer.{Answer}
use Rattle.osi_commands.specs.Answers.{script_answer, done_answer}

-- the kind of fault of a schedule as which a fault of a recording is told
abbrev pub script_kind : RecordingKind → ScriptKind
script_kind recording_kinds.BadField = kinds.BadField
script_kind recording_kinds.TooMany = kinds.TooMany

-- what is answered where the octets of a recording were read so: its trace, or its first faulty line
abbrev pub ToldBy : Tables → Result (List Recorded) RecordingFault → Answer → Type 0
ToldBy tables (Ok told) answer = (text : List ℕ) × TraceTextOf tables told text × (answer ≡ done_answer text)
ToldBy tables (Err (recording_faults.At number kind)) answer = answer ≡ script_answer number (script_kind kind)
ToldBy tables (Err recording_faults.NoMemory) answer = ⊥

-- what is answered to the octets of a recording
abbrev pub TracedBy : Tables → List ℕ → Answer → Type 0
TracedBy tables octets answer = ToldBy tables (recording_of octets) answer
