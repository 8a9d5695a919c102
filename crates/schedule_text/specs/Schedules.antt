-- Schedules: what the lines of a text say, or the first line that breaks the grammar and how.
use Rattle.std.specs.Prelude.{◌≡◌, ℕ, ◌+◌, ◌==◌, nat_lt, Bool, true, false, not, ◌&&◌, if◌then◌else◌, List, [], ◌∷◌, length, Result, Ok, Err, codes}
use Rattle.std.specs.List.{list_any}
use Rattle.osi_base.specs.Limits.{text_most}
use Rattle.stub_tables.specs.declared.tables.Tables.{Tables}
use Rattle.dialogue.specs.declared.config.Config.{Config}
use Rattle.dialogue.specs.declared.event.Event.{Event}
use Rattle.value_reading.specs.Words.{after_spaces}
use Rattle.script_lines.specs.declared.fault.ScriptFault.{ScriptFault}
use Rattle.script_lines.specs.declared.fault.ScriptFault.TheVariants as script
use Rattle.script_lines.specs.declared.fault.ScriptKind.TheVariants.{UnknownWord, OutOfOrder, TooMany, BadSetup}
use Rattle.script_lines.specs.declared.line_fault.ScriptLineFault.{ScriptLineFault}
use Rattle.script_lines.specs.declared.line_fault.ScriptLineFault.TheVariants as faults
use Rattle.script_lines.specs.Lines.{lines_of}
use Rattle.script_lines.specs.Reading.{Reading, ◌>>=◌}
use Rattle.script_lines.specs.Fields.{field_at, is_next}
use Rattle.schedule_text.specs.declared.draft.Draft.{Draft}
use Rattle.schedule_text.specs.declared.schedule.Schedule.{Schedule}
use Rattle.schedule_text.specs.declared.setting.Modes.{Modes}
use Rattle.schedule_text.specs.Settings.{settled}
use Rattle.schedule_text.specs.SetupLines.{is_setup_word, setup_line}
use Rattle.schedule_text.specs.Events.{no_draft, is_event_word, event_line}

-- two configurations, and the events of their ends
pub record Said : Type 0 where
  pub a : Config
  pub b : Config
  pub events : List Event

abbrev pub configs_and_events : Schedule → Said
configs_and_events schedule = record { a = schedule.setup.a; b = schedule.setup.b; events = schedule.events }

-- ---- one line

abbrev pub has_events : List Event → Bool
has_events [] = false
has_events (event ∷ events) = true

-- the lines of the setup stand before the events
abbrev pub setup_in_draft : Modes → Tables → Draft → List ℕ → List ℕ → Reading Draft
setup_in_draft modes tables draft word rest =
    if has_events draft.events then Err OutOfOrder
    else (setup_line modes tables draft.setting word rest >>= λ setting. Ok (record draft { setting = setting }))

abbrev pub line_of_word : Modes → Tables → Draft → List ℕ → List ℕ → Reading Draft
line_of_word modes tables draft word rest =
    if is_setup_word word then setup_in_draft modes tables draft word rest
    else if is_event_word word then event_line tables draft word rest
    else Err UnknownWord

-- a line without a field, or a comment
abbrev pub says_nothing : List ℕ → Bool
says_nothing [] = true
says_nothing (c ∷ cs) = c == 35

abbrev pub is_blank : List ℕ → Bool
is_blank line = says_nothing (after_spaces line)

-- the draft with one line more
abbrev pub after_line : Modes → Tables → Draft → List ℕ → Reading Draft
after_line modes tables draft line =
    if is_blank line then Ok draft else (field_at line >>= λ word. line_of_word modes tables draft word.0 word.1)

-- ---- all lines

abbrev pub at_line : {A : Type 0} → ℕ → Reading A → Result A ScriptFault
at_line number (Ok x) = Ok x
at_line number (Err kind) = Err (script.At number kind)

abbrev pub then_lines : (Draft → Result Draft ScriptFault) → ℕ → Reading Draft → Result Draft ScriptFault
then_lines next number (Ok draft) = next draft
then_lines next number (Err kind) = Err (script.At number kind)

-- the draft with these lines, the first of which has this number
abbrev pub lines_read : Modes → Tables → Draft → ℕ → List (List ℕ) → Result Draft ScriptFault
lines_read modes tables draft number [] = Ok draft
lines_read modes tables draft number (line ∷ lines) =
    then_lines (λ after. lines_read modes tables after (number + 1) lines) number (after_line modes tables draft line)

-- what a draft says, where the ends run its mode and refuse neither configuration
abbrev pub finished : Modes → Tables → Draft → Reading Said
finished modes tables draft =
    settled modes tables draft.setting >>= λ (c : Config × Config). Ok (record { a = c.0; b = c.1; events = draft.events })

abbrev pub then_finished : Modes → Tables → Result Draft ScriptFault → Result Said ScriptFault
then_finished modes tables (Ok draft) = at_line 1 (finished modes tables draft)
then_finished modes tables (Err fault) = Err fault

-- ---- where the ends don't run direct mode, a line has to name the mode

abbrev pub names_a_mode : List (List ℕ) → Bool
names_a_mode lines = list_any (λ line. is_next (codes "mode") line) lines

abbrev pub lacks_mode : Modes → List (List ℕ) → Bool
lacks_mode modes lines = not modes.direct && not (names_a_mode lines)

-- a fault of the first line, or the lack
abbrev pub first_or_lack : Modes → Tables → List (List ℕ) → ScriptFault
first_or_lack modes tables [] = script.At 1 BadSetup
first_or_lack modes tables (line ∷ lines) = lack_behind (after_line modes tables no_draft line)
  where
    lack_behind : Reading Draft → ScriptFault
    lack_behind (Ok draft) = script.At 1 BadSetup
    lack_behind (Err kind) = script.At 1 kind

-- ---- the text

abbrev pub of_lines : Modes → Tables → List (List ℕ) → Result Said ScriptFault
of_lines modes tables lines =
    if lacks_mode modes lines then Err (first_or_lack modes tables lines)
    else then_finished modes tables (lines_read modes tables no_draft 1 lines)

-- what a schedule says, or its first faulty line with the kind of its first faulty field
abbrev pub schedule_of : Modes → Tables → List ℕ → Result Said ScriptFault
schedule_of modes tables text = if nat_lt text_most (length text) then Err (script.At 1 TooMany) else of_lines modes tables (lines_of text)

-- a fault of a line, as one of the text
abbrev pub TellsOf : ℕ → ScriptLineFault → ScriptFault → Type 0
TellsOf number (faults.Kind kind) fault = fault ≡ script.At number kind
TellsOf number faults.NoMemory fault = fault ≡ script.NoMemory
