-- What the reading of schedules says of a text, line by line.
use Rattle.std.specs.Prelude.{◌≡◌, ◌≤◌, ◌⊎◌, ℕ, suc, true, false, List, [], ◌∷◌, length, take, Some, slice_get, Result, Ok, Err}
use Rattle.osi_base.specs.Limits.{text_most}
use Rattle.stub_tables.specs.declared.tables.Tables.{Tables}
use Rattle.dialogue.specs.declared.config.Config.{Config}
use Rattle.dialogue.specs.declared.config.Mode.TheVariants.{Bare}
use Rattle.dialogue.specs.Config.{IsBare}
use Rattle.script_lines.specs.declared.fault.ScriptKind.{ScriptKind}
use Rattle.script_lines.specs.declared.fault.ScriptFault.{ScriptFault}
use Rattle.script_lines.specs.declared.fault.ScriptFault.TheVariants.{At}
use Rattle.script_lines.specs.Lines.{lines_of}
use Rattle.script_lines.specs.Reading.{Reading, ◌>>=◌}
use Rattle.schedule_text.specs.declared.draft.Draft.{Draft}
use Rattle.schedule_text.specs.declared.setting.Modes.{Modes}
use Rattle.schedule_text.specs.Meeting.{Meet}
use Rattle.schedule_text.specs.Settings.{runs}
use Rattle.schedule_text.specs.Events.{no_draft}
use Rattle.schedule_text.specs.Schedules.{Said, after_line, finished, schedule_of}

-- what these lines say, one after the other, where none breaks the grammar
abbrev pub said_by : Modes → Tables → Draft → List (List ℕ) → Reading Draft
said_by modes tables draft [] = Ok draft
said_by modes tables draft (line ∷ lines) = after_line modes tables draft line >>= λ after. said_by modes tables after lines

-- The line behind so many breaks the grammar in this way, and none of those before it breaks it.
pub record BreaksFirst (modes : Modes) (tables : Tables) (lines : List (List ℕ)) (before : ℕ) (kind : ScriptKind) : Type 0 where
  pub draft : Draft
  pub line : List ℕ
  pub fine : said_by modes tables no_draft (take before lines) ≡ Ok draft
  pub stands : slice_get lines before ≡ Some line
  pub breaks : after_line modes tables draft line ≡ Err kind

-- All lines are fine, and what they say is this.
pub record SaysAll (modes : Modes) (tables : Tables) (lines : List (List ℕ)) (read : Reading Said) : Type 0 where
  pub draft : Draft
  pub fine : said_by modes tables no_draft lines ≡ Ok draft
  pub said : finished modes tables draft ≡ read

-- a fault of the setup after all lines, at line 1
abbrev pub result_at_line_one : Reading Said → Result Said ScriptFault
result_at_line_one (Ok s) = Ok s
result_at_line_one (Err kind) = Err (At 1 kind)

-- Where direct mode is run: a text of not too many octets is a schedule as its lines say, or has one first fault: a line
-- that breaks the grammar in this way, or the setup that stands after all of them, which is told at line 1.
pub record HasOneReading (modes : Modes) (tables : Tables) (text : List ℕ) : Type 0 where
  pub said : (s : Said) → schedule_of modes tables text ≡ Ok s → SaysAll modes tables (lines_of text) (Ok s)
  pub broken : (number : ℕ) (kind : ScriptKind) → schedule_of modes tables text ≡ Err (At number kind)
      → ((before : ℕ) × (number ≡ suc before) × BreaksFirst modes tables (lines_of text) before kind)
      ⊎ ((number ≡ 1) × SaysAll modes tables (lines_of text) (Err kind))
  pub all_said : (read : Reading Said) → SaysAll modes tables (lines_of text) read → schedule_of modes tables text ≡ result_at_line_one read
  pub breaks : (before : ℕ) (kind : ScriptKind) → BreaksFirst modes tables (lines_of text) before kind → schedule_of modes tables text ≡ Err (At (suc before) kind)

-- for every module and every text
abbrev pub EveryTextHasOneReading : Type 0
EveryTextHasOneReading = (modes : Modes) (tables : Tables) (text : List ℕ) → modes.direct ≡ true → length text ≤ text_most → HasOneReading modes tables text

-- two configurations that meet in bare mode are ones that ends of bare mode don't refuse
abbrev pub SetupsOfBareMode : Type 0
SetupsOfBareMode = (a b : Config) → Meet a b → a.mode ≡ Bare → IsBare true a × IsBare false b

-- The ends run the mode, and the two configurations meet.
pub record IsRun (modes : Modes) (s : Said) : Type 0 where
  pub runs : runs modes s.a.mode ≡ true
  pub meet : Meet s.a s.b

-- what a schedule sets up is run
abbrev pub SchedulesAreRun : Type 0
SchedulesAreRun = (modes : Modes) (tables : Tables) (text : List ℕ) (s : Said) → schedule_of modes tables text ≡ Ok s → IsRun modes s

-- where the ends run bare mode alone, a schedule is in bare mode, and its configurations are ones that no end of it refuses
abbrev pub BareSchedulesAreBare : Type 0
BareSchedulesAreBare = (modes : Modes) (tables : Tables) (text : List ℕ) (s : Said) → modes.direct ≡ false → modes.reliable ≡ false
    → schedule_of modes tables text ≡ Ok s → IsBare true s.a × IsBare false s.b
