-- The steps of reading.
use Rattle.std.proofs.Common.{◌≡◌, ℕ, ◌+◌, ◌<◌, true, false, List, [], ◌∷◌, ◌++◌, length, drop, get_or, Option, Some, None, refl, sym, ap, ◌∙◌, arith}
use Rattle.std.proofs.lemmas.List.{at_drop_more, at_drop_all, length_push}
use Rattle.osi_base.specs.declared.layer_words.Side.{Side}
use Rattle.trace_file.specs.declared.reading.Recorded.{Recorded}
use Rattle.trace_file.specs.Lines.{sender_of}
use Rattle.std.specs.Prelude.{is_some, ◌==◌}
use Rattle.std.proofs.Common.{Result, Ok, Err}
use Rattle.trace_file.specs.declared.fault.RecordingFault.{RecordingFault}
use Rattle.trace_file.specs.declared.fault.RecordingFault.TheVariants as faults
use Rattle.osi_base.specs.Hexadecimal.{octet_of}
use Rattle.trace_file.specs.Reading.{more_octets, added, LineRead, other, tells, faulty, read_told, begun, gone_on, line_at, line_of, put_behind, at_line, lines_at, line_result, FailsWith}

-- the next of the items that are left
pub next_is : (all : List (List ℕ)) (n : ℕ) (x : List ℕ) → (n < length all) × (x ≡ get_or all n x) → drop n all ≡ x ∷ drop (n + 1) all
next_is all n x h = at_drop_more (λ (l : List (List ℕ)). l) all n x h.0 ∙ ap (λ (y : List ℕ). y ∷ drop (n + 1) all) (sym h.1)

-- ---- octets of a field

pub pair_on : (octets : List ℕ) (high low : ℕ) (rest : List ℕ) (octet : ℕ) → octet_of high low ≡ Some octet
    → more_octets octets (high ∷ low ∷ rest) ≡ more_octets (octets ++ octet ∷ []) rest
unfolding more_octets
pair_on octets high low rest octet e = rw e refl

-- ---- pieces of a line

pub empty_on : (from : Option Side) (octets : List ℕ) (all : List (List ℕ)) (n : ℕ) (x : List ℕ) (whole : LineRead) → (n < length all) × (x ≡ get_or all n x) → x ≡ []
    → line_at from octets (drop n all) ≡ whole → line_at from octets (drop (n + 1) all) ≡ whole
unfolding line_at
empty_on from octets all n x whole t e h =
    sym (ap (line_at from octets) (next_is all n x t ∙ ap (λ (y : List ℕ). y ∷ drop (n + 1) all) e)) ∙ h

word_at : (octets : List ℕ) (x : List ℕ) (pieces : List (List ℕ)) → (x ≡ [] → ⊥) → line_at None octets (x ∷ pieces) ≡ begun (sender_of x) (λ from. line_at (Some from) octets pieces)
unfolding line_at
word_at octets [] pieces ne = absurd (ne refl)
word_at octets (d ∷ ds) pieces ne = refl

field_at : (from : Side) (octets : List ℕ) (x : List ℕ) (pieces : List (List ℕ)) → (x ≡ [] → ⊥) → line_at (Some from) octets (x ∷ pieces) ≡ gone_on (more_octets octets x) (λ next. line_at (Some from) next pieces)
unfolding line_at
field_at from octets [] pieces ne = absurd (ne refl)
field_at from octets (d ∷ ds) pieces ne = refl

begun_as : (s from : Option Side) (octets : List ℕ) (pieces : List (List ℕ)) → s ≡ from → is_some from ≡ true → begun s (λ from. line_at (Some from) octets pieces) ≡ line_at from octets pieces
begun_as None None octets pieces e i = absurd cc
begun_as (Some s) None octets pieces e i = absurd cc
begun_as None (Some from) octets pieces e i = absurd cc
begun_as (Some s) (Some from) octets pieces e i = (let f : s ≡ from = cc in ap (λ (t : Side). line_at (Some t) octets pieces) f)

-- no direction
pub no_word : (from : Option Side) (octets : List ℕ) (all : List (List ℕ)) (n : ℕ) (x : List ℕ) (whole : LineRead) → (n < length all) × (x ≡ get_or all n x) → (x ≡ [] → ⊥) → is_some from ≡ false
    → sender_of x ≡ None → line_at from octets (drop n all) ≡ whole → whole ≡ other
no_word (Some from) octets all n x whole t ne i s h = absurd cc
no_word None octets all n x whole t ne i s h =
    sym h ∙ ap (line_at None octets) (next_is all n x t) ∙ word_at octets x (drop (n + 1) all) ne ∙ ap (λ (o : Option Side). begun o (λ from. line_at (Some from) octets (drop (n + 1) all))) s

-- a direction
pub word_on : (before from : Option Side) (octets : List ℕ) (all : List (List ℕ)) (n : ℕ) (x : List ℕ) (whole : LineRead) → (n < length all) × (x ≡ get_or all n x) → (x ≡ [] → ⊥) → is_some before ≡ false
    → from ≡ sender_of x → is_some from ≡ true → line_at before octets (drop n all) ≡ whole → line_at from octets (drop (n + 1) all) ≡ whole
word_on (Some b) from octets all n x whole t ne i s j h = absurd cc
word_on None from octets all n x whole t ne i s j h =
    sym (ap (line_at None octets) (next_is all n x t) ∙ word_at octets x (drop (n + 1) all) ne ∙ begun_as (sender_of x) from octets (drop (n + 1) all) (sym s) j) ∙ h

-- a field behind a direction
pub field_on : (from : Option Side) (octets next : List ℕ) (all : List (List ℕ)) (n : ℕ) (x : List ℕ) (whole : LineRead) → (n < length all) × (x ≡ get_or all n x) → (x ≡ [] → ⊥) → is_some from ≡ true
    → added true next ≡ more_octets octets x → line_at from octets (drop n all) ≡ whole → line_at from next (drop (n + 1) all) ≡ whole
field_on None octets next all n x whole t ne i e h = absurd cc
field_on (Some from) octets next all n x whole t ne i e h =
    sym (ap (line_at (Some from) octets) (next_is all n x t) ∙ field_at from octets x (drop (n + 1) all) ne ∙ ap (λ (o : Option (List ℕ)). gone_on o (λ next. line_at (Some from) next (drop (n + 1) all))) (sym e)) ∙ h

pub bad_field : (from : Option Side) (octets next : List ℕ) (all : List (List ℕ)) (n : ℕ) (x : List ℕ) (whole : LineRead) → (n < length all) × (x ≡ get_or all n x) → (x ≡ [] → ⊥) → is_some from ≡ true
    → added false next ≡ more_octets octets x → line_at from octets (drop n all) ≡ whole → whole ≡ faulty
bad_field None octets next all n x whole t ne i e h = absurd cc
bad_field (Some from) octets next all n x whole t ne i e h =
    sym h ∙ ap (line_at (Some from) octets) (next_is all n x t) ∙ field_at from octets x (drop (n + 1) all) ne ∙ ap (λ (o : Option (List ℕ)). gone_on o (λ next. line_at (Some from) next (drop (n + 1) all))) (sym e)

-- the end of a line
pub line_ends : (from : Option Side) (octets : List ℕ) (all : List (List ℕ)) (n : ℕ) (whole : LineRead) → n ≡ length all → line_at from octets (drop n all) ≡ whole → whole ≡ read_told from octets
unfolding line_at
line_ends from octets all n whole e h = sym h ∙ at_drop_all (line_at from octets) all n (omega arith)

-- ---- lines

pub line_on : (number : ℕ) (told : List Recorded) (line : Option Recorded) (all : List (List ℕ)) (n : ℕ) (x : List ℕ) (whole : Result (List Recorded) RecordingFault) → (n < length all) × (x ≡ get_or all n x)
    → line_result number (line_of x) ≡ Ok line → lines_at number told (drop n all) ≡ whole → lines_at (number + 1) (put_behind line told) (drop (n + 1) all) ≡ whole
unfolding lines_at
line_on number told line all n x whole t e h =
    sym (ap (lines_at number told) (next_is all n x t) ∙ by_line (line_of x) line e) ∙ h
  where
    by_line : (r : LineRead) (o : Option Recorded) → line_result number r ≡ Ok o → at_line number r told (λ next. lines_at (number + 1) next (drop (n + 1) all)) ≡ lines_at (number + 1) (put_behind o told) (drop (n + 1) all)
    by_line other None e = refl
    by_line other (Some one) e = absurd cc
    by_line (tells one) None e = absurd cc
    by_line (tells one) (Some two) e = (let f : one ≡ two = cc in ap (λ (r : Recorded). lines_at (number + 1) (put_behind (Some r) told) (drop (n + 1) all)) f)
    by_line faulty o e = absurd cc

pub line_stops : (number : ℕ) (told : List Recorded) (fault : RecordingFault) (all : List (List ℕ)) (n : ℕ) (x : List ℕ) (whole : Result (List Recorded) RecordingFault) → (n < length all) × (x ≡ get_or all n x)
    → FailsWith fault (line_result number (line_of x)) → lines_at number told (drop n all) ≡ whole → FailsWith fault whole
unfolding lines_at
line_stops number told faults.NoMemory all n x whole t e h = tt
line_stops number told (faults.At line kind) all n x whole t e h =
    sym h ∙ ap (lines_at number told) (next_is all n x t) ∙ by_line (line_of x) e
  where
    by_line : (r : LineRead) → line_result number r ≡ Err (faults.At line kind) → at_line number r told (λ next. lines_at (number + 1) next (drop (n + 1) all)) ≡ Err (faults.At line kind)
    by_line other e = absurd cc
    by_line (tells one) e = absurd cc
    by_line faulty e = cc

pub lines_end : (number : ℕ) (told : List Recorded) (all : List (List ℕ)) (n : ℕ) (whole : Result (List Recorded) RecordingFault) → n ≡ length all → lines_at number told (drop n all) ≡ whole → whole ≡ Ok told
unfolding lines_at
lines_end number told all n whole e h = sym h ∙ at_drop_all (lines_at number told) all n (omega arith)

pub is_none_left : (x : List ℕ) → (length x == 0) ≡ true → x ≡ []
is_none_left [] e = refl
is_none_left (d ∷ ds) e = absurd (grind arith)

pub is_left : (x : List ℕ) → (length x == 0) ≡ false → x ≡ [] → ⊥
is_left [] e f = cc
is_left (d ∷ ds) e f = cc

-- one more was yielded
pub one_yielded : {A : Type 0} (yielded : List A) (x : A) (n : ℕ) → n ≡ length yielded + 1 → length (yielded ++ x ∷ []) ≡ n
one_yielded yielded x n e = length_push yielded x ∙ sym e

pub none_of : (s o : Option Side) → s ≡ o → is_some s ≡ false → o ≡ None
none_of None o e f = sym e
none_of (Some side) o e f = absurd cc
