-- What the program answers: a status, and the text that it writes.
use Rattle.std.specs.Prelude.{ℕ, ◌≡◌, ◌⊎◌, Bool, true, false, List, ◌++◌, Option, codes}
use Rattle.osi_base.specs.Outside.{FaultsRose, grown, GrewPart}
use Rattle.osi_base.specs.declared.layer_words.Status.{Status}
use Rattle.osi_base.specs.declared.layer_words.Status.TheVariants.{Done, Usage, ReadFault, WriteFault, ModuleRefused, ScriptRefused, NoMemory}
use Rattle.script_lines.specs.declared.fault.ScriptKind.{ScriptKind}
use Rattle.script_lines.specs.Printed.{script_fault_text}
use Rattle.script_lines.specs.declared.fault.ScriptFault.TheVariants as faults
use Rattle.transcript_text.specs.Texts.{line}
use Rattle.module_reading.specs.declared.fault.ModuleKind.{ModuleKind}
use Rattle.module_check.specs.Checking.{refused_text}
use Rattle.osi_commands.specs.declared.answers.Answer.{Answer}

-- the words are no command
abbrev pub usage_answer : Answer
usage_answer = record {
  status = Usage;
  text = line (codes "usage: osi_tool check MODULE [--table] | replay MODULE SCHEDULE [--brief] | replay --made N | call MODULE SCRIPT | serve MODULE BOOK CONNECTIONS | trace MODULE FILE");
}

-- a file isn't read
abbrev pub unread_answer : List ℕ → Answer
unread_answer name = record { status = ReadFault; text = line (codes "cannot read " ++ name) }

-- the module has a fault at this line and column
abbrev pub module_answer : ℕ → ℕ → ModuleKind → Answer
module_answer number column kind = record { status = ModuleRefused; text = refused_text number column kind }

-- the schedule or the recording breaks its grammar at this line
abbrev pub script_answer : ℕ → ScriptKind → Answer
script_answer number kind = record { status = ScriptRefused; text = line (script_fault_text (faults.At number kind)) }

-- the work is whole
abbrev pub done_answer : List ℕ → Answer
done_answer text = record { status = Done; text = text }

abbrev pub is_read_fault : Status → Bool
is_read_fault ReadFault = true
is_read_fault _ = false

-- The files' count is as it was, unless the answer is that a file isn't read.
abbrev pub KeepsCount : ℕ → ℕ → Answer → Type 0
KeepsCount old new answer = is_read_fault answer.status ≡ false → new ≡ old

-- How a run ends that has this answer, by the sink's count of faults and what it tells, both before and after:
-- all is written, or a beginning of it, and writing failed or memory was refused. The count is as it was unless
-- writing failed, so a failed write isn't told as done or as want of memory.
pub data EndedWith (old new : ℕ) (before after : Option (List ℕ)) (answer : Answer) : Status → Type 0 where
  whole : new ≡ old → after ≡ grown before answer.text → EndedWith old new before after answer answer.status
  failed : FaultsRose old new → GrewPart before after answer.text → EndedWith old new before after answer WriteFault
  no_memory : new ≡ old → GrewPart before after answer.text → EndedWith old new before after answer NoMemory

-- ---- the end of a call of the program that has one of these answers

-- An answer is written, or a beginning of it; or memory was refused before there was one, and no file had failed.
pub data Closes (Is : Answer → Type 0) (old new sink_old sink_new : ℕ) (before after : Option (List ℕ)) : Status → Type 0 where
  answered : (answer : Answer) (status : Status) → Is answer → KeepsCount old new answer → EndedWith sink_old sink_new before after answer status
      → Closes Is old new sink_old sink_new before after status
  no_room : new ≡ old → sink_new ≡ sink_old → after ≡ before → Closes Is old new sink_old sink_new before after NoMemory

-- WriteFault and NoMemory: a beginning of an answer was written.
pub record IsBegun (Is : Answer → Type 0) (old new : ℕ) (before after : Option (List ℕ)) : Type 0 where
  pub answer : Answer
  pub is : Is answer
  pub counts : KeepsCount old new answer
  pub part : GrewPart before after answer.text

-- The answer is that a file isn't read, and a beginning of it was written.
pub record IsUnreadBegun (Is : Answer → Type 0) (old new : ℕ) (before after : Option (List ℕ)) : Type 0 where
  pub begun : IsBegun Is old new before after
  pub unread : begun.answer.status ≡ ReadFault

-- The files' count is as it was, unless a file wasn't read: that is told, or the sink failed or was refused memory
-- as it was being told.
abbrev pub CountsFiles : (Answer → Type 0) → ℕ → ℕ → Option (List ℕ) → Option (List ℕ) → Status → Type 0
CountsFiles Is old new before after status =
    (new ≡ old) ⊎ ((status ≡ ReadFault) ⊎ (((status ≡ WriteFault) ⊎ (status ≡ NoMemory)) × IsUnreadBegun Is old new before after))

-- The sink's count is as it was, unless the status is that of the sink.
abbrev pub CountsWrites : ℕ → ℕ → Status → Type 0
CountsWrites old new status = (status ≡ WriteFault) ⊎ (new ≡ old)

-- The status is this one, unless writing failed or memory was refused.
abbrev pub IsUnless : ℕ → ℕ → Status → Status → Type 0
IsUnless sink_old sink_new wanted status = (status ≡ wanted) ⊎ (((status ≡ WriteFault) × FaultsRose sink_old sink_new) ⊎ (status ≡ NoMemory))
