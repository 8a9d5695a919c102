-- Lines that are read one after the other, and the first that breaks the grammar.
use Rattle.std.proofs.Common.{◌≡◌, ◌≤◌, ◌⊎◌, inl, inr, ℕ, zero, suc, ◌+◌, true, false, List, [], ◌∷◌, length, take, Option, Some, None, slice_get, Result, Ok, Err, refl, sym, ap, ◌∙◌, arith, nat_lt}
use Rattle.std.proofs.lemmas.Bool.Decides.{nat_tests}
use Rattle.osi_base.specs.Limits.{text_most}
use Rattle.stub_tables.specs.declared.tables.Tables.{Tables}
use Rattle.script_lines.specs.declared.fault.ScriptKind.{ScriptKind}
use Rattle.script_lines.specs.declared.fault.ScriptFault.{ScriptFault}
use Rattle.script_lines.specs.declared.fault.ScriptFault.TheVariants.{At}
use Rattle.script_lines.specs.Lines.{lines_of}
use Rattle.script_lines.specs.Reading.{Reading, ◌>>=◌}
use Rattle.schedule_text.specs.declared.draft.Draft.{Draft}
use Rattle.schedule_text.specs.declared.setting.Modes.{Modes}
use Rattle.schedule_text.specs.Events.{no_draft}
use Rattle.schedule_text.specs.Schedules.{Said, after_line, at_line, then_lines, lines_read, finished, then_finished, schedule_of}
use Rattle.schedule_text.specs.Laws.{said_by, BreaksFirst, SaysAll, result_at_line_one, HasOneReading}

-- from this draft on: the line behind so many breaks the grammar, and none before it
pub record BreaksFrom (modes : Modes) (tables : Tables) (start : Draft) (lines : List (List ℕ)) (before : ℕ) (kind : ScriptKind) : Type 0 where
  pub draft : Draft
  pub line : List ℕ
  pub fine : said_by modes tables start (take before lines) ≡ Ok draft
  pub stands : slice_get lines before ≡ Some line
  pub breaks : after_line modes tables draft line ≡ Err kind

-- what reading the lines gives: a draft, or a fault at one of them
abbrev pub Comes : Modes → Tables → Draft → ℕ → List (List ℕ) → Result Draft ScriptFault → Type 0
Comes modes tables start number lines (Ok draft) = said_by modes tables start lines ≡ Ok draft
Comes modes tables start number lines (Err fault) = (before : ℕ) × (kind : ScriptKind) × (fault ≡ At (number + before) kind) × BreaksFrom modes tables start lines before kind

-- one line more before
comes_behind : (modes : Modes) (tables : Tables) (start after : Draft) (number : ℕ) (line : List ℕ) (lines : List (List ℕ)) (r : Result Draft ScriptFault)
    → after_line modes tables start line ≡ Ok after → Comes modes tables after (number + 1) lines r → Comes modes tables start number (line ∷ lines) r
comes_behind modes tables start after number line lines (Ok draft) e h = rw e h
comes_behind modes tables start after number line lines (Err fault) e (before, kind, same, b) =
    let place : (number + 1) + before ≡ number + suc before = omega arith in
    (suc before, kind, rw place at same, record { draft = b.draft; line = b.line; fine = rw e b.fine; stands = b.stands; breaks = b.breaks })

comes_step : (modes : Modes) (tables : Tables) (start : Draft) (number : ℕ) (line : List ℕ) (lines : List (List ℕ)) (r : Reading Draft) → after_line modes tables start line ≡ r
    → ((after : Draft) → Comes modes tables after (number + 1) lines (lines_read modes tables after (number + 1) lines))
    → Comes modes tables start number (line ∷ lines) (then_lines (λ after. lines_read modes tables after (number + 1) lines) number r)
comes_step modes tables start number line lines (Ok after) e more =
    comes_behind modes tables start after number line lines (lines_read modes tables after (number + 1) lines) e (more after)
comes_step modes tables start number line lines (Err kind) e more =
    let place : number ≡ number + 0 = omega arith in
    (0, kind, ap (λ n. At n kind) place, record { draft = start; line = line; fine = refl; stands = refl; breaks = e })

pub comes : (modes : Modes) (tables : Tables) (start : Draft) (number : ℕ) (lines : List (List ℕ)) → Comes modes tables start number lines (lines_read modes tables start number lines)
comes modes tables start number [] = refl
comes modes tables start number (line ∷ lines) =
    comes_step modes tables start number line lines (after_line modes tables start line) refl (λ after. comes modes tables after (number + 1) lines)

-- ---- the other way round

bind_ok : {A B : Type 0} (r : Reading A) (f : A → Reading B) (y : B) → (r >>= f) ≡ Ok y → (x : A) × (r ≡ Ok x) × (f x ≡ Ok y)
bind_ok (Ok x) f y e = (x, refl, e)
bind_ok (Err kind) f y e = absurd (let no : ⊥ = cc in no)

pub all_read : (modes : Modes) (tables : Tables) (start draft : Draft) (number : ℕ) (lines : List (List ℕ)) → said_by modes tables start lines ≡ Ok draft → lines_read modes tables start number lines ≡ Ok draft
all_read modes tables start draft number [] e = ap (at_line number) e
all_read modes tables start draft number (line ∷ lines) e =
    let b = bind_ok (after_line modes tables start line) (λ after. said_by modes tables after lines) draft e in
    rw b.1 (all_read modes tables b.0 draft (number + 1) lines b.2)

abbrev ok_or : {A : Type 0} → A → Reading A → A
ok_or d (Ok x) = x
ok_or d (Err kind) = d

abbrev some_or : {A : Type 0} → A → Option A → A
some_or d (Some x) = x
some_or d None = d

ok_same : {A : Type 0} (x y : A) (r : Reading A) → r ≡ Ok x → r ≡ Ok y → x ≡ y
ok_same x y r e f = ap (ok_or x) (sym e ∙ f)

no_line : (n : ℕ) (line : List ℕ) → slice_get {X = List ℕ} [] n ≡ Some line → ⊥
no_line n line h = cc

pub first_read : (modes : Modes) (tables : Tables) (start : Draft) (number : ℕ) (lines : List (List ℕ)) (before : ℕ) (kind : ScriptKind) → BreaksFrom modes tables start lines before kind
    → lines_read modes tables start number lines ≡ Err (At (number + before) kind)
first_read modes tables start number [] before kind b = absurd (no_line before b.line b.stands)
first_read modes tables start number (line ∷ lines) zero kind b =
    let d : start ≡ b.draft = ap (ok_or start) b.fine in
    let l : line ≡ b.line = ap (some_or line) b.stands in
    let place : number ≡ number + 0 = omega arith in
    let e : after_line modes tables start line ≡ Err kind = ap (λ x. after_line modes tables x line) d ∙ ap (after_line modes tables b.draft) l ∙ b.breaks in
    rw e (ap (λ n. Err (At n kind)) place)
first_read modes tables start number (line ∷ lines) (suc before) kind b =
    let f = bind_ok (after_line modes tables start line) (λ after. said_by modes tables after (take before lines)) b.draft b.fine in
    let place : (number + 1) + before ≡ number + suc before = omega arith in
    rw f.1 (first_read modes tables f.0 (number + 1) lines before kind (record { draft = b.draft; line = b.line; fine = f.2; stands = b.stands; breaks = b.breaks }) ∙ ap (λ n. Err (At n kind)) place)

-- ---- the text

-- what is told of all lines
abbrev pub Tells : Modes → Tables → List (List ℕ) → Result Said ScriptFault → Type 0
Tells modes tables lines (Ok s) = SaysAll modes tables lines (Ok s)
Tells modes tables lines (Err fault) =
    ((before : ℕ) × (kind : ScriptKind) × (fault ≡ At (suc before) kind) × BreaksFirst modes tables lines before kind)
    ⊎ ((kind : ScriptKind) × (fault ≡ At 1 kind) × SaysAll modes tables lines (Err kind))

tells_finished : (modes : Modes) (tables : Tables) (lines : List (List ℕ)) (draft : Draft) (r : Reading Said) → said_by modes tables no_draft lines ≡ Ok draft → finished modes tables draft ≡ r
    → Tells modes tables lines (at_line 1 r)
tells_finished modes tables lines draft (Ok s) fine e = record { draft = draft; fine = fine; said = e }
tells_finished modes tables lines draft (Err kind) fine e = inr (kind, refl, record { draft = draft; fine = fine; said = e })

tells_read : (modes : Modes) (tables : Tables) (lines : List (List ℕ)) (r : Result Draft ScriptFault) → Comes modes tables no_draft 1 lines r → Tells modes tables lines (then_finished modes tables r)
tells_read modes tables lines (Ok draft) h = tells_finished modes tables lines draft (finished modes tables draft) h refl
tells_read modes tables lines (Err fault) (before, kind, same, b) =
    let place : 1 + before ≡ suc before = omega arith in
    inl (before, kind, rw place at same, record { draft = b.draft; line = b.line; fine = b.fine; stands = b.stands; breaks = b.breaks })

-- a text of which the lines are read
pub read_whole : (modes : Modes) (tables : Tables) (text : List ℕ) → modes.direct ≡ true → length text ≤ text_most
    → schedule_of modes tables text ≡ then_finished modes tables (lines_read modes tables no_draft 1 (lines_of text))
read_whole modes tables text direct short =
    let few : nat_lt text_most (length text) ≡ false = grind (arith, nat_tests) in
    rw (few, direct) refl

told_so : (modes : Modes) (tables : Tables) (lines : List (List ℕ)) (s : Said) (r : Result Said ScriptFault) → Tells modes tables lines r → r ≡ Ok s → SaysAll modes tables lines (Ok s)
told_so modes tables lines s (Ok t) h e = let same : t ≡ s = cc in rw (sym same) h
told_so modes tables lines s (Err fault) h e = absurd (let no : ⊥ = cc in no)

broken_so : (modes : Modes) (tables : Tables) (lines : List (List ℕ)) (number : ℕ) (kind : ScriptKind) (r : Result Said ScriptFault) → Tells modes tables lines r → r ≡ Err (At number kind)
    → ((before : ℕ) × (number ≡ suc before) × BreaksFirst modes tables lines before kind) ⊎ ((number ≡ 1) × SaysAll modes tables lines (Err kind))
broken_so modes tables lines number kind (Ok t) h e = absurd (let no : ⊥ = cc in no)
broken_so modes tables lines number kind (Err fault) (inl (before, other, same, b)) e =
    let n : number ≡ suc before = cc in
    let k : other ≡ kind = cc in
    inl (before, n, rw (sym k) b)
broken_so modes tables lines number kind (Err fault) (inr (other, same, b)) e =
    let n : number ≡ 1 = cc in
    let k : other ≡ kind = cc in
    inr (n, rw (sym k) b)

result_is : (read : Reading Said) → at_line 1 read ≡ result_at_line_one read
result_is (Ok s) = refl
result_is (Err kind) = refl

pub first_fault : (modes : Modes) (tables : Tables) (text : List ℕ) → modes.direct ≡ true → length text ≤ text_most → HasOneReading modes tables text
first_fault modes tables text direct short =
    let lines = lines_of text in
    let whole = read_whole modes tables text direct short in
    let tells = tells_read modes tables lines (lines_read modes tables no_draft 1 lines) (comes modes tables no_draft 1 lines) in
    let r = then_finished modes tables (lines_read modes tables no_draft 1 lines) in
    record {
      said = λ s e. told_so modes tables lines s r tells (sym whole ∙ e);
      broken = λ number kind e. broken_so modes tables lines number kind r tells (sym whole ∙ e);
      all_said = λ read a. whole ∙ ap (then_finished modes tables) (all_read modes tables no_draft a.draft 1 lines a.fine) ∙ ap (at_line 1) a.said ∙ result_is read;
      breaks = λ before kind b. let place : 1 + before ≡ suc before = omega arith in
          whole ∙ ap (then_finished modes tables) (first_read modes tables no_draft 1 lines before kind (record { draft = b.draft; line = b.line; fine = b.fine; stands = b.stands; breaks = b.breaks }))
          ∙ ap (λ n. Err (At n kind)) place;
    }
