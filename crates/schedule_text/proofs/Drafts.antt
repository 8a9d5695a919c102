-- Lines that are read one after the other.
use Rattle.std.proofs.Common.{◌≡◌, ℕ, ◌+◌, List, ◌∷◌, refl, Ok, Err}
use Rattle.stub_tables.specs.declared.tables.Tables.{Tables}
use Rattle.script_lines.specs.declared.fault.ScriptKind.{ScriptKind}
use Rattle.script_lines.specs.declared.fault.ScriptFault.TheVariants.{At}
use Rattle.schedule_text.specs.declared.draft.Draft.{Draft}
use Rattle.schedule_text.specs.declared.setting.Modes.{Modes}
use Rattle.schedule_text.specs.Schedules.{after_line, lines_read}

pub line_taken : (modes : Modes) (tables : Tables) (draft after : Draft) (number : ℕ) (line : List ℕ) (lines : List (List ℕ)) → after_line modes tables draft line ≡ Ok after
    → lines_read modes tables draft number (line ∷ lines) ≡ lines_read modes tables after (number + 1) lines
line_taken modes tables draft after number line lines e = rw e refl

pub line_refused : (modes : Modes) (tables : Tables) (draft : Draft) (number : ℕ) (line : List ℕ) (lines : List (List ℕ)) (kind : ScriptKind) → after_line modes tables draft line ≡ Err kind
    → lines_read modes tables draft number (line ∷ lines) ≡ Err (At number kind)
line_refused modes tables draft number line lines kind e = rw e refl

pub ruleset steps = (line_taken, line_refused)
