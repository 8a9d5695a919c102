-- The replay of a schedule.
use Rattle.std.specs.Prelude.{◌≡◌, ℕ, Bool, true, if◌then◌else◌, List, Result, Ok, Err}
use Rattle.stub_tables.specs.declared.tables.Tables.{Tables}
use Rattle.dialogue.specs.declared.event.Transcript.{Transcript}
use Rattle.script_lines.specs.declared.fault.ScriptFault.{ScriptFault}
use Rattle.script_lines.specs.declared.fault.ScriptFault.TheVariants.{At, NoMemory}
use Rattle.replays.specs.schedule_text.declared.setting.Modes.{Modes}
use Rattle.replays.specs.schedule_text.Schedules.{Said, schedule_of}
use Rattle.transcript_text.specs.Texts.{text_of}
use Rattle.transcript_text.specs.Counts.{summary_of}
use Rattle.replays.specs.Runs.{RanSchedule}
use Rattle.osi_commands.specs.declared.answers.Answer.{Answer}
use Rattle.osi_commands.specs.Answers.{script_answer, done_answer}

-- the modes that are run: each of the three
abbrev pub every_mode : Modes
every_mode = record { direct = true; reliable = true }

-- what is written of a run: its transcript, or in brief its summary
abbrev pub written_of : Bool → Tables → Transcript → List ℕ
written_of brief tables transcript = if brief then summary_of transcript else text_of tables transcript

-- Two new ends ran the schedule, and this is what is written of the run.
pub record Replayed (brief : Bool) (tables : Tables) (schedule : Said) (text : List ℕ) : Type 0 where
  pub transcript : Transcript
  -- what the transcript tells is a run that keeps all laws of its mode
  pub ran : RanSchedule tables schedule transcript
  -- and every such run of the schedule is told by this transcript
  pub only : (other : Transcript) → RanSchedule tables schedule other → other ≡ transcript
  pub text_is : text ≡ written_of brief tables transcript

-- what is answered where the octets of a schedule were read so: what is written of its run, or its first faulty line
abbrev pub RepliedBy : Bool → Tables → Result Said ScriptFault → Answer → Type 0
RepliedBy brief tables (Ok schedule) answer = (text : List ℕ) × Replayed brief tables schedule text × (answer ≡ done_answer text)
RepliedBy brief tables (Err (At number kind)) answer = answer ≡ script_answer number kind
RepliedBy brief tables (Err NoMemory) answer = ⊥

-- what is answered to the octets of a schedule
abbrev pub ReplayedBy : Bool → Tables → List ℕ → Answer → Type 0
ReplayedBy brief tables octets answer = RepliedBy brief tables (schedule_of every_mode tables octets) answer
