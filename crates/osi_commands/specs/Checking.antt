-- The command `check`: what words and files make the program answer, and why it ends as it does.
use Rattle.std.specs.Prelude.{ℕ, Bool, ◌≡◌, ◌≢◌, ◌⊎◌, List, Option, None, Some, IfSome}
use Rattle.osi_base.specs.Outside.{IsCalm, FileMap, grown}
use Rattle.osi_base.specs.declared.layer_words.Status.{Status}
use Rattle.osi_base.specs.declared.layer_words.Status.TheVariants.{Done, Usage, ReadFault, ModuleRefused, ScriptRefused}
use Rattle.stub_tables.specs.declared.tables.Tables.{Tables}
use Rattle.module_reading.specs.declared.fault.ModuleKind.{ModuleKind}
use Rattle.module_reading.specs.declared.fault.ModuleFault.TheVariants as faults
use Rattle.module_reading.specs.Modules.{HasTables, IsRefused}
use Rattle.module_check.specs.Command.{Check}
use Rattle.module_check.specs.Checking.{shown, IsChecked}
use Rattle.module_check.specs.declared.checking.Checked.{Checked}
use Rattle.module_check.specs.declared.checking.Checked.TheVariants.{Shown, Refused}
use Rattle.osi_commands.specs.declared.answers.Answer.{Answer}
use Rattle.osi_commands.specs.Answers.{unread_answer, done_answer, IsUnless}
use Rattle.osi_commands.specs.Reading.{WasRead}
use Rattle.osi_commands.specs.Causes.{IsUnread, IsRefusedModule, HasNoTables, HasNoRefusal}

-- ---- the whole of it

-- the answer that has what a check writes
abbrev pub checked_answer : Checked → Answer
checked_answer (Shown text) = done_answer text
checked_answer (Refused text) = record { status = ModuleRefused; text = text }

-- what is answered to the octets of a module
pub record ChecksOctets (table : Bool) (octets : List ℕ) (answer : Answer) : Type 0 where
  pub written : Checked
  pub is : IsChecked table octets written
  pub answer_is : answer ≡ checked_answer written

-- What a check is answered, by the told files and their count of faults, before and after: that the module isn't read, or
-- what is written of its octets.
pub data Checks (told : Option FileMap) (old new : ℕ) (check : Check) : Answer → Type 0 where
  unread : WasRead told old new check.«module» None → Checks told old new check (unread_answer check.«module»)
  read : (octets : List ℕ) (answer : Answer) → WasRead told old new check.«module» (Some octets) → ChecksOctets check.table octets answer
      → Checks told old new check answer

-- ---- what each status says

-- Done: the module was read and has tables, and what was written shows them.
pub record IsShownDone (told : Option FileMap) (old new : ℕ) (check : Check) (before after : Option (List ℕ)) : Type 0 where
  pub octets : List ℕ
  pub module_read : WasRead told old new check.«module» (Some octets)
  pub tables : Tables
  pub has : HasTables octets tables
  pub written : after ≡ grown before (shown check.table tables)

-- ---- when each status comes

-- Over a told map whose files didn't fail: a module that is missing isn't read, one that has tables is shown, and one that has a
-- fault is refused. One without a fault is shown, and one without tables is refused. Any module that is there is shown or refused.
pub record IsCheckDue (map : FileMap) (check : Check) (sink_old sink_new : ℕ) (status : Status) : Type 0 where
  pub no_module : map check.«module» ≡ None → IsUnless sink_old sink_new ReadFault status
  pub tables : (octets : List ℕ) (tables : Tables) → map check.«module» ≡ Some octets → HasTables octets tables → IsUnless sink_old sink_new Done status
  pub fault : (octets : List ℕ) (line column : ℕ) (kind : ModuleKind) → map check.«module» ≡ Some octets → IsRefused octets (faults.At line column kind)
      → IsUnless sink_old sink_new ModuleRefused status
  pub no_tables : (octets : List ℕ) → map check.«module» ≡ Some octets → HasNoTables octets → IsUnless sink_old sink_new ModuleRefused status
  pub no_fault : (octets : List ℕ) → map check.«module» ≡ Some octets → HasNoRefusal octets → IsUnless sink_old sink_new Done status
  pub there : (octets : List ℕ) → map check.«module» ≡ Some octets → IsUnless sink_old sink_new Done status ⊎ IsUnless sink_old sink_new ModuleRefused status

-- ---- all of it

-- how the top call ends with words that are a check
pub record CheckEnds (told : Option FileMap) (old new : ℕ) (check : Check) (sink_old sink_new : ℕ) (before after : Option (List ℕ)) (status : Status) : Type 0 where
  pub done : status ≡ Done → IsShownDone told old new check before after
  pub read_fault : status ≡ ReadFault → IsUnread told old new check.«module» before after
  pub module_refused : status ≡ ModuleRefused → IsRefusedModule told old new check.«module» before after
  pub no_other : (status ≢ Usage) × (status ≢ ScriptRefused)
  pub due : IfSome told (λ map. IsCalm old new → IsCheckDue map check sink_old sink_new status)
