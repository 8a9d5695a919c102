-- Files of recorded dialogues, by the grammar and as they are read.
use Rattle.std.proofs.Common.{◌≡◌, ℕ, ◌+◌, ◌≤◌, Bool, true, false, cond, List, [], ◌∷◌, ◌++◌, length, Option, Some, None, Result, Ok, Err, refl, sym, ap, subst, ◌∙◌, append_assoc, inl, inr, arith}
use Rattle.std.specs.Prelude.{◌⊎◌, IfOk, IfErr, nat_lt}
use Rattle.std.proofs.lemmas.Bool.{ltb-false, le-ltb}
use borrow.Author.Tests.{ltb-true}
use Rattle.std.proofs.lemmas.Bool.Decides.{nat_tests}
use Rattle.std.proofs.lemmas.List.{append-nil}
use Rattle.osi_base.specs.Limits.{text_most}
use Rattle.trace_file.specs.declared.fault.RecordingFault.{RecordingFault}
use Rattle.trace_file.specs.declared.fault.RecordingFault.TheVariants as faults
use Rattle.trace_file.specs.declared.fault.RecordingKind.{RecordingKind}
use Rattle.trace_file.specs.declared.fault.RecordingKind.TheVariants.{BadField, TooMany}
use Rattle.trace_file.specs.declared.reading.Recorded.{Recorded}
use Rattle.trace_file.specs.Lines.{lines_of, fields_of}
use Rattle.trace_file.specs.Grammar.{Tells, put, AllTell, IsRecording, IsFaultyLine, IsFirstFault, IsRefused}
use Rattle.trace_file.specs.Reading.{LineRead, other, tells, faulty, line_of, put_behind, at_line, lines_at, recording_of, Gives}
use Rattle.trace_file.proofs.FieldLaws.{Means, line_means, read_as, line_again, faulty_again}

abbrev Told : Type 0
Told = Result (List Recorded) RecordingFault

abbrev ok : List Recorded → Told
ok told = Ok told

abbrev no_lines : List (List ℕ)
no_lines = []

abbrev bad : ℕ → Told
bad line = Err (faults.At line BadField)

-- ---- what is read is told

-- what lines from a number on make of what was told before
pub data Comes (number : ℕ) (before : List Recorded) (lines : List (List ℕ)) : Told → Type 0 where
  all_told : (more : List Recorded) → AllTell lines more → Comes number before lines (Ok (before ++ more))
  at_fault : (right : List (List ℕ)) (line : List ℕ) (others : List (List ℕ)) (told : List Recorded) → lines ≡ right ++ line ∷ others → AllTell right told → IsFaultyLine (fields_of line)
      → Comes number before lines (Err (faults.At (number + length right) BadField))

told_more : (first : Option Recorded) (before more : List Recorded) → put_behind first before ++ more ≡ before ++ put first more
told_more None before more = refl
told_more (Some one) before more = append_assoc before (one ∷ []) more

goes_on : (number : ℕ) (before : List Recorded) (line : List ℕ) (lines : List (List ℕ)) (first : Option Recorded) (r : Told) → Tells (fields_of line) first → Comes (number + 1) (put_behind first before) lines r
    → Comes number before (line ∷ lines) r
goes_on number before line lines first _ t (all_told more a) =
    subst (Comes number before (line ∷ lines)) (ap ok (sym (told_more first before more))) (all_told (put first more) (first, more, t, a, refl))
goes_on number before line lines first _ t (at_fault right faulty_line others told parts tell wrong) =
    let n : number + length (line ∷ right) ≡ number + 1 + length right = omega arith in
    subst (Comes number before (line ∷ lines)) (ap bad n) (at_fault (line ∷ right) faulty_line others (put first told) (ap (λ (l : List (List ℕ)). line ∷ l) parts) (first, told, t, tell, refl) wrong)

line_comes : (number : ℕ) (before : List Recorded) (line : List ℕ) (lines : List (List ℕ)) (next : List Recorded → Told) (r : LineRead) → Means (fields_of line) r
    → ((told : List Recorded) → Comes (number + 1) told lines (next told)) → Comes number before (line ∷ lines) (at_line number r before next)
line_comes number before line lines next other m h = goes_on number before line lines None (next before) m (h before)
line_comes number before line lines next (tells one) m h = goes_on number before line lines (Some one) (next (before ++ one ∷ [])) m (h (before ++ one ∷ []))
line_comes number before line lines next faulty m h =
    let n : number + length no_lines ≡ number = omega arith in
    subst (Comes number before (line ∷ lines)) (ap bad n) (at_fault [] line lines [] refl refl m)

pub lines_come : (number : ℕ) (before : List Recorded) (lines : List (List ℕ)) → Comes number before lines (lines_at number before lines)
unfolding lines_at
lines_come number before [] = subst (Comes number before []) (ap ok (append-nil before)) (all_told [] refl)
lines_come number before (line ∷ lines) =
    line_comes number before line lines (λ next. lines_at (number + 1) next lines) (line_of line) (line_means line) (λ told. lines_come (number + 1) told lines)

-- ---- what is told is read

pub told_again : (number : ℕ) (before : List Recorded) (lines : List (List ℕ)) (more : List Recorded) → AllTell lines more → lines_at number before lines ≡ Ok (before ++ more)
unfolding lines_at
told_again number before [] more a = ap ok (sym (append-nil before) ∙ ap (λ (l : List Recorded). before ++ l) (sym a))
told_again number before (line ∷ lines) more a =
    ap (λ (r : LineRead). at_line number r before (λ next. lines_at (number + 1) next lines)) (line_again line a.0 a.2) ∙ read_on a.0 ∙ told_again (number + 1) (put_behind a.0 before) lines a.1 a.3
    ∙ ap ok (told_more a.0 before a.1 ∙ ap (λ (l : List Recorded). before ++ l) (sym a.4))
  where
    read_on : (first : Option Recorded) → at_line number (read_as first) before (λ next. lines_at (number + 1) next lines) ≡ lines_at (number + 1) (put_behind first before) lines
    read_on None = refl
    read_on (Some one) = refl

pub fault_again : (number : ℕ) (before : List Recorded) (right : List (List ℕ)) (line : List ℕ) (others : List (List ℕ)) (told : List Recorded) → AllTell right told → IsFaultyLine (fields_of line)
    → lines_at number before (right ++ line ∷ others) ≡ bad (number + length right)
unfolding lines_at
fault_again number before [] line others told a f =
    let n : number ≡ number + length no_lines = omega arith in
    ap (λ (r : LineRead). at_line number r before (λ next. lines_at (number + 1) next others)) (faulty_again line f) ∙ ap bad n
fault_again number before (first ∷ right) line others told a f =
    let n : number + 1 + length right ≡ number + length (first ∷ right) = omega arith in
    ap (λ (r : LineRead). at_line number r before (λ next. lines_at (number + 1) next (right ++ line ∷ others))) (line_again first a.0 a.2) ∙ read_on a.0
    ∙ fault_again (number + 1) (put_behind a.0 before) right line others a.1 a.3 f ∙ ap bad n
  where
    read_on : (o : Option Recorded) → at_line number (read_as o) before (λ next. lines_at (number + 1) next (right ++ line ∷ others)) ≡ lines_at (number + 1) (put_behind o before) (right ++ line ∷ others)
    read_on None = refl
    read_on (Some one) = refl

-- ---- the file

abbrev too_many : Told
too_many = Err (faults.At 1 TooMany)

abbrev IsRead : List ℕ → Told → Type 0
IsRead text (Ok told) = IsRecording text told
IsRead text (Err e) = (line : ℕ) × (kind : RecordingKind) × (e ≡ faults.At line kind) × IsFirstFault text line kind

come_read : (text : List ℕ) (r : Told) → length text ≤ text_most → Comes 1 [] (lines_of text) r → IsRead text r
come_read text _ within (all_told more a) = record { within = within; tells = a }
come_read text _ within (at_fault right line others told parts tell wrong) =
    (1 + length right, BadField, refl, (within, record { right = right; line = line; others = others; told = told; parts = parts; tell = tell; wrong = wrong; counted = omega arith }))

by_length : (b : Bool) (text : List ℕ) → nat_lt text_most (length text) ≡ b → IsRead text (cond b too_many (lines_at 1 [] (lines_of text)))
by_length true text e = (1, TooMany, refl, (ltb-true text_most (length text) e, refl))
by_length false text e = come_read text (lines_at 1 [] (lines_of text)) (ltb-false text_most (length text) e) (lines_come 1 [] (lines_of text))

pub is_read : (text : List ℕ) → IsRead text (recording_of text)
unfolding recording_of
is_read text = by_length (nat_lt text_most (length text)) text refl

short_is : (text : List ℕ) → length text ≤ text_most → recording_of text ≡ lines_at 1 [] (lines_of text)
unfolding recording_of
short_is text h = (let e : nat_lt text_most (length text) ≡ false = le-ltb text_most (length text) h in ap (λ (b : Bool). cond b too_many (lines_at 1 [] (lines_of text))) e)

pub recording_again : (text : List ℕ) (told : List Recorded) → IsRecording text told → recording_of text ≡ Ok told
recording_again text told r = short_is text r.within ∙ told_again 1 [] (lines_of text) told r.tells

abbrev refused : ℕ → RecordingKind → Told
refused line kind = Err (faults.At line kind)

pub first_again : (text : List ℕ) (line : ℕ) (kind : RecordingKind) → IsFirstFault text line kind → recording_of text ≡ refused line kind
unfolding recording_of
first_again text line TooMany f =
    let e : nat_lt text_most (length text) ≡ true = grind (arith, nat_tests) in
    ap (λ (b : Bool). cond b too_many (lines_at 1 [] (lines_of text))) e ∙ ap (λ n. refused n TooMany) (sym f.1)
first_again text line BadField f =
    let w = f.1 in
    let n : 1 + length w.right ≡ line = (let c = w.counted in omega arith) in
    short_is text f.0 ∙ ap (lines_at 1 []) w.parts ∙ fault_again 1 [] w.right w.line w.others w.told w.tell w.wrong ∙ ap bad n

-- what a call returned
pub found_of : (r : Told) (text : List ℕ) → Gives r (recording_of text) → IfOk r (IsRecording text)
found_of (Ok told) text e = subst (IsRead text) e (is_read text)
found_of (Err f) text e = tt

refused_of : (e : RecordingFault) (text : List ℕ) (r : Told) → r ≡ Err e → IsRead text r → IsRefused text e
refused_of faults.NoMemory text r h i = tt
refused_of (faults.At line kind) text r h i =
    let j : IsRead text (Err (faults.At line kind)) = subst (IsRead text) h i in
    let s : faults.At line kind ≡ faults.At j.0 j.1 = j.2 in
    let l : line ≡ j.0 = cc in
    let k : kind ≡ j.1 = cc in
    subst (λ (n : ℕ). IsFirstFault text n kind) (sym l) (subst (IsFirstFault text j.0) (sym k) j.3)

pub fault_of : (r : Told) (text : List ℕ) → Gives r (recording_of text) → IfErr r (IsRefused text)
fault_of (Ok told) text e = tt
fault_of (Err faults.NoMemory) text e = tt
fault_of (Err (faults.At line kind)) text e = refused_of (faults.At line kind) text (recording_of text) e (is_read text)

pub one_recording : (text : List ℕ) (told others : List Recorded) → IsRecording text told → IsRecording text others → told ≡ others
one_recording text told others a b = (let e : ok told ≡ ok others = sym (recording_again text told a) ∙ recording_again text others b in cc)

pub not_both : (text : List ℕ) (told : List Recorded) (line : ℕ) (kind : RecordingKind) → IsRecording text told → IsFirstFault text line kind → ⊥
not_both text told line kind a f = (let e : ok told ≡ refused line kind = sym (recording_again text told a) ∙ first_again text line kind f in cc)

pub either : (text : List ℕ) → ((told : List Recorded) × IsRecording text told) ⊎ ((line : ℕ) × (kind : RecordingKind) × IsFirstFault text line kind)
either text = by (recording_of text) (is_read text)
  where
    by : (r : Told) → IsRead text r → ((told : List Recorded) × IsRecording text told) ⊎ ((line : ℕ) × (kind : RecordingKind) × IsFirstFault text line kind)
    by (Ok told) i = inl (told, i)
    by (Err e) i = inr (i.0, i.1, i.3)
