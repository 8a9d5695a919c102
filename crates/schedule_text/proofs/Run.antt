-- What a schedule sets up is run.
use Rattle.std.proofs.Common.{◌≡◌, Bool, true, false, List, length, Result, Ok, Err, refl, sym, ap, ◌∙◌, subst, if◌then◌else◌, nat_lt, ℕ}
use Rattle.osi_base.specs.Limits.{text_most}
use Rattle.stub_tables.specs.declared.tables.Tables.{Tables}
use Rattle.dialogue.specs.declared.config.Config.{Config}
use Rattle.script_lines.specs.declared.fault.ScriptFault.{ScriptFault}
use Rattle.script_lines.specs.declared.fault.ScriptFault.TheVariants as script
use Rattle.script_lines.specs.declared.fault.ScriptKind.TheVariants.{TooMany}
use Rattle.script_lines.specs.Lines.{lines_of}
use Rattle.script_lines.specs.Reading.{Reading, ◌>>=◌}
use Rattle.schedule_text.specs.declared.draft.Draft.{Draft}
use Rattle.schedule_text.specs.declared.setting.Modes.{Modes}
use Rattle.schedule_text.specs.Meeting.{Meet}
use Rattle.schedule_text.specs.Events.{no_draft}
use Rattle.schedule_text.specs.Settings.{runs, settled}
use Rattle.schedule_text.specs.Schedules.{Said, at_line, lines_read, finished, then_finished, lacks_mode, first_or_lack, schedule_of}
use Rattle.schedule_text.specs.Laws.{IsRun}
use Rattle.schedule_text.proofs.Settled.{settled_meet, settled_runs}

abbrev a_of : Config → Reading Said → Config
a_of d (Ok s) = s.a
a_of d (Err kind) = d

abbrev b_of : Config → Reading Said → Config
b_of d (Ok s) = s.b
b_of d (Err kind) = d

from_pair : (modes : Modes) (tables : Tables) (draft : Draft) (s : Said) (x y : Config) → settled modes tables draft.setting ≡ Ok (x, y) → x ≡ s.a → y ≡ s.b → IsRun modes s
from_pair modes tables draft s x y e p q =
    let meet = settled_meet modes tables draft.setting x y e in
    let meets : Meet s.a s.b = subst (λ (c : Config). Meet c s.b) p (subst (λ (c : Config). Meet x c) q meet) in
    record { runs = ap (λ (c : Config). runs modes c.mode) (sym p) ∙ settled_runs modes tables draft.setting x y e; meet = meets }

by_settled : (modes : Modes) (tables : Tables) (draft : Draft) (s : Said) (r : Reading (Config × Config)) → settled modes tables draft.setting ≡ r
    → (r >>= λ (c : Config × Config). Ok (record { a = c.0; b = c.1; events = draft.events })) ≡ Ok s → IsRun modes s
by_settled modes tables draft s (Ok c) e f = from_pair modes tables draft s c.0 c.1 e (ap (a_of c.0) f) (ap (b_of c.1) f)
by_settled modes tables draft s (Err kind) e f = absurd (let no : ⊥ = cc in no)

by_finished : (modes : Modes) (tables : Tables) (draft : Draft) (s : Said) (r : Reading Said) → finished modes tables draft ≡ r → at_line 1 r ≡ Ok s → IsRun modes s
by_finished modes tables draft s (Ok t) e f =
    let same : t ≡ s = cc in
    by_settled modes tables draft s (settled modes tables draft.setting) refl (e ∙ ap (λ (x : Said). Ok x) same)
by_finished modes tables draft s (Err kind) e f = absurd (let no : ⊥ = cc in no)

by_lines : (modes : Modes) (tables : Tables) (s : Said) (r : Result Draft ScriptFault) → then_finished modes tables r ≡ Ok s → IsRun modes s
by_lines modes tables s (Ok draft) e = by_finished modes tables draft s (finished modes tables draft) refl e
by_lines modes tables s (Err fault) e = absurd (let no : ⊥ = cc in no)

by_tests : (modes : Modes) (tables : Tables) (s : Said) (long lacks : Bool) (lack : ScriptFault) (r : Result Draft ScriptFault)
    → (if long then Err (script.At 1 TooMany) else if lacks then Err lack else then_finished modes tables r) ≡ Ok s → IsRun modes s
by_tests modes tables s true lacks lack r e = absurd (let no : ⊥ = cc in no)
by_tests modes tables s false true lack r e = absurd (let no : ⊥ = cc in no)
by_tests modes tables s false false lack r e = by_lines modes tables s r e

pub is_run : (modes : Modes) (tables : Tables) (text : List ℕ) (s : Said) → schedule_of modes tables text ≡ Ok s → IsRun modes s
is_run modes tables text s e =
    let lines = lines_of text in
    by_tests modes tables s (nat_lt text_most (length text)) (lacks_mode modes lines) (first_or_lack modes tables lines) (lines_read modes tables no_draft 1 lines) e
