-- What a sound table says of each of its rows.
use Rattle.std.proofs.Common.{◌≡◌, ℕ, zero, suc, ◌+◌, ◌<◌, ◌≤◌, ℤ, Bool, true, false, cond, ◌||◌, List, [], ◌∷◌, length, take, drop, Option, Some, None, refl, sym, ap, ◌∙◌, arith, length-take, get_or, subst}
use Rattle.std.specs.Prelude.{slice_get, nat_lt, nat_eq}
use Rattle.std.specs.List.{AllByRecursion, list_any, flat_map}
use Rattle.std.proofs.lemmas.List.Folds.{list_any-append}
use Rattle.std.proofs.lemmas.Option.{slice_get_within}
use Rattle.std.proofs.lemmas.Bool.{ltb-true, ltb-false}
use Rattle.osi_base.specs.Limits.{most_levels}
use Rattle.asn1_types.specs.declared.row.Part.{Part}
use Rattle.asn1_types.specs.declared.row.TypeRow.{TypeRow}
use Rattle.asn1_types.specs.declared.row.TypeRow.TheVariants.{Boolean, Integer, Enumerated, Null, OctetString, BitString, ObjectId, Text, Sequence, Set, SequenceOf, SetOf, Choice, Tagged, Any}
use Rattle.asn1_types.specs.declared.refusal.RowRefusal.{RowRefusal}
use Rattle.asn1_types.specs.Rows.{names_of, rows_of_parts, greatest, nesting_by, nesting, Opening, every, meets, openings_by, openings}
use Rattle.asn1_types.specs.Defaults.{default_by, no_default, takes_default, has_bad_default}
use Rattle.asn1_types.specs.Table.{first_from, is_bad_range, is_double_name, clash, clashes_in_run, clashes_in_sequence, agrees_later, has_clash, refusal_after, refusal, AreSoundRows}
use Rattle.asn1_types.proofs.Along.{IsDown, SameTo, agree, settled}

pub record IsTaken (rows : List TypeRow) (row : TypeRow) : Type 0 where
  pub names : first_from (length rows) (names_of row) ≡ None
  pub range : is_bad_range row ≡ false
  pub double : is_double_name row ≡ false
  pub nested : nat_lt most_levels (nesting_by (nesting rows) row) ≡ false
  pub apart : has_clash (openings rows) row ≡ false

taken_tests : (a b c d f : Bool) (v w x y z : RowRefusal) → cond a (Some v) (cond b (Some w) (cond c (Some x) (cond d (Some y) (cond f (Some z) None)))) ≡ None → (a ≡ false) × (b ≡ false) × (c ≡ false) × (d ≡ false)
taken_tests true b c d f v w x y z e = absurd cc
taken_tests false true c d f v w x y z e = absurd cc
taken_tests false false true d f v w x y z e = absurd cc
taken_tests false false false true f v w x y z e = absurd cc
taken_tests false false false false f v w x y z e = (refl, refl, refl, refl)

taken_from : (o : Option ℕ) (rows : List TypeRow) (row : TypeRow) → first_from (length rows) (names_of row) ≡ o → refusal_after o rows row ≡ None → IsTaken rows row
taken_from (Some n) rows row f e = absurd cc
taken_from None rows row f e =
    let t = taken_tests (is_bad_range row) (is_double_name row) (nat_lt most_levels (nesting_by (nesting rows) row)) (has_clash (openings rows) row) (has_bad_default (takes_default rows) row) _ _ _ _ _ e in
    record { names = f; range = t.0; double = t.1; nested = t.2; apart = t.3 }

pub taken : (rows : List TypeRow) (row : TypeRow) → refusal rows row ≡ None → IsTaken rows row
unfolding refusal
taken rows row e = taken_from (first_from (length rows) (names_of row)) rows row refl e

pub names_below : (count n : ℕ) (ns : List ℕ) → count ≤ n → first_from count ns ≡ None → AllByRecursion (λ m. m < n) ns
names_below count n [] le e = tt
names_below count n (m ∷ ns) le e =
    let t = named (nat_lt m count) (first_from count ns) m e in
    (let lt : m < count = ltb-true m count t.0 in omega arith, names_below count n ns le t.1)
  where
    named : (b : Bool) (o : Option ℕ) (m : ℕ) → cond b o (Some m) ≡ None → (b ≡ true) × (o ≡ None)
    named true o m e = (refl, e)
    named false o m e = absurd cc

pub is_down : (rows : List TypeRow) → AreSoundRows rows → IsDown rows
is_down rows sound = record {
  lower = λ n row e.
      names_below (length (take n rows)) n (names_of row) (omega (arith, length-take n rows)) (taken (take n rows) row (sound.each n row e)).names;
}

-- ---- openings and nesting go by the rows that are named

flat_parts : (parts : List Part) (f g : ℕ → List Opening) → AllByRecursion (λ m. f m ≡ g m) (rows_of_parts parts) → flat_map (λ (p : Part). f p.inner.0) parts ≡ flat_map (λ (p : Part). g p.inner.0) parts
flat_parts [] f g h = refl
flat_parts (p ∷ ps) f g h = rw (h.0, flat_parts ps f g h.1) refl

pub openings_cong : (row : TypeRow) (f g : ℕ → List Opening) → AllByRecursion (λ m. f m ≡ g m) (names_of row) → openings_by f row ≡ openings_by g row
openings_cong Boolean f g h = refl
openings_cong (Integer low high) f g h = refl
openings_cong (Enumerated items) f g h = refl
openings_cong Null f g h = refl
openings_cong (OctetString most) f g h = refl
openings_cong BitString f g h = refl
openings_cong ObjectId f g h = refl
openings_cong (Text kind) f g h = refl
openings_cong (Sequence parts) f g h = refl
openings_cong (Set parts) f g h = refl
openings_cong (SequenceOf inner) f g h = refl
openings_cong (SetOf inner) f g h = refl
openings_cong (Choice parts) f g h = flat_parts parts f g h
openings_cong (Tagged class number explicit inner) f g h = refl
openings_cong Any f g h = refl

greatest_cong : (ns : List ℕ) (f g : ℕ → ℕ) → AllByRecursion (λ m. f m ≡ g m) ns → greatest f ns ≡ greatest g ns
greatest_cong [] f g h = refl
greatest_cong (n ∷ ns) f g h = rw (h.0, greatest_cong ns f g h.1) refl

pub nesting_cong : (row : TypeRow) (f g : ℕ → ℕ) → AllByRecursion (λ m. f m ≡ g m) (names_of row) → nesting_by f row ≡ nesting_by g row
nesting_cong row f g h = ap (λ n. 1 + n) (greatest_cong (names_of row) f g h)

-- what a value of a row begins with, by the row
pub openings_at : (rows : List TypeRow) → AreSoundRows rows → (n : ℕ) (row : TypeRow) → slice_get rows n ≡ Some row → openings rows n ≡ openings_by (openings rows) row
unfolding openings
openings_at rows sound n row e = settled [] openings_by openings_cong rows (is_down rows sound) n row e ∙ refl

-- ---- the rows before a row see what all rows see

slice_get-take : (rows : List TypeRow) (n m : ℕ) → m < n → slice_get (take n rows) m ≡ slice_get rows m
slice_get-take rows zero m lt = absurd (omega arith)
slice_get-take [] (suc n) m lt = refl
slice_get-take (row ∷ rows) (suc n) zero lt = refl
slice_get-take (row ∷ rows) (suc n) (suc m) lt = slice_get-take rows n m (omega arith)

same_before : (rows : List TypeRow) (n m : ℕ) → m < n → SameTo rows (take n rows) m
same_before rows n m lt = record { same = λ i le. sym (slice_get-take rows n i (omega arith)) }

pub openings_before : (rows : List TypeRow) → AreSoundRows rows → (n m : ℕ) → n ≤ length rows → m < n → openings rows m ≡ openings (take n rows) m
unfolding openings
openings_before rows sound n m le lt =
    let len : length (take n rows) ≡ n = omega (arith, length-take n rows) in
    agree [] openings_by openings_cong rows (take n rows) (is_down rows sound) m (length rows) (length (take n rows)) (omega arith) (omega arith) (same_before rows n m lt)

pub nesting_before : (rows : List TypeRow) → AreSoundRows rows → (n m : ℕ) → n ≤ length rows → m < n → nesting rows m ≡ nesting (take n rows) m
unfolding nesting
nesting_before rows sound n m le lt =
    let len : length (take n rows) ≡ n = omega (arith, length-take n rows) in
    agree 0 nesting_by nesting_cong rows (take n rows) (is_down rows sound) m (length rows) (length (take n rows)) (omega arith) (omega arith) (same_before rows n m lt)

abbrev pub Alike : (ℕ → List Opening) → (ℕ → List Opening) → List Part → Type 0
Alike f g parts = AllByRecursion (λ m. f m ≡ g m) (rows_of_parts parts)

clash_cong : (f g : ℕ → List Opening) (a b : Part) → f a.inner.0 ≡ g a.inner.0 → f b.inner.0 ≡ g b.inner.0 → clash f a b ≡ clash g a b
clash_cong f g a b d e = rw (d, e) refl

any_cong : (f g : ℕ → List Opening) (a : Part) (ps : List Part) → f a.inner.0 ≡ g a.inner.0 → Alike f g ps → list_any (clash f a) ps ≡ list_any (clash g a) ps
any_cong f g a [] d h = refl
any_cong f g a (p ∷ ps) d h = rw (clash_cong f g a p d h.0, any_cong f g a ps d h.1) refl

later_cong : (f g : ℕ → List Opening) (ps : List Part) → Alike f g ps → agrees_later (clash f) ps ≡ agrees_later (clash g) ps
later_cong f g [] h = refl
later_cong f g (p ∷ ps) h = rw (any_cong f g p ps h.0 h.1, later_cong f g ps h.1) refl

run_cong : (f g : ℕ → List Opening) (a : Part) (ps : List Part) → f a.inner.0 ≡ g a.inner.0 → Alike f g ps → clashes_in_run (clash f) a ps ≡ clashes_in_run (clash g) a ps
run_cong f g a [] d h = refl
run_cong f g a (p ∷ ps) d h = rw (clash_cong f g a p d h.0, run_cong f g a ps d h.1) refl

sequence_cong : (f g : ℕ → List Opening) (ps : List Part) → Alike f g ps → clashes_in_sequence (clash f) ps ≡ clashes_in_sequence (clash g) ps
sequence_cong f g [] h = refl
sequence_cong f g (p ∷ ps) h = rw (run_cong f g p ps h.0 h.1, sequence_cong f g ps h.1) refl

pub clash_by_cong : (row : TypeRow) (f g : ℕ → List Opening) → AllByRecursion (λ m. f m ≡ g m) (names_of row) → has_clash f row ≡ has_clash g row
clash_by_cong Boolean f g h = refl
clash_by_cong (Integer low high) f g h = refl
clash_by_cong (Enumerated items) f g h = refl
clash_by_cong Null f g h = refl
clash_by_cong (OctetString most) f g h = refl
clash_by_cong BitString f g h = refl
clash_by_cong ObjectId f g h = refl
clash_by_cong (Text kind) f g h = refl
clash_by_cong (Sequence parts) f g h = sequence_cong f g parts h
clash_by_cong (Set parts) f g h = later_cong f g parts h
clash_by_cong (SequenceOf inner) f g h = refl
clash_by_cong (SetOf inner) f g h = refl
clash_by_cong (Choice parts) f g h = later_cong f g parts h
clash_by_cong (Tagged class number explicit inner) f g h = refl
clash_by_cong Any f g h = refl

each_before : (rows : List TypeRow) → AreSoundRows rows → (n : ℕ) (ns : List ℕ) → n ≤ length rows → AllByRecursion (λ m. m < n) ns → AllByRecursion (λ m. openings rows m ≡ openings (take n rows) m) ns
each_before rows sound n [] le h = tt
each_before rows sound n (m ∷ ns) le h = (openings_before rows sound n m le h.0, each_before rows sound n ns le h.1)

-- what holds of a row of a sound table
pub record IsSoundRow (rows : List TypeRow) (n : ℕ) (row : TypeRow) : Type 0 where
  pub down : AllByRecursion (λ m. m < n) (names_of row)
  pub range : is_bad_range row ≡ false
  pub apart : has_clash (openings rows) row ≡ false
  pub opens : openings rows n ≡ openings_by (openings rows) row

pub sound_row : (rows : List TypeRow) → AreSoundRows rows → (n : ℕ) (row : TypeRow) → slice_get rows n ≡ Some row → IsSoundRow rows n row
sound_row rows sound n row e =
    let t = taken (take n rows) row (sound.each n row e) in
    let lt : n < length rows = slice_get_within rows n row e in
    let d = (is_down rows sound).lower n row e in
    record {
      down = d;
      range = t.range;
      apart = clash_by_cong row (openings rows) (openings (take n rows)) (each_before rows sound n (names_of row) (omega arith) d) ∙ t.apart;
      opens = openings_at rows sound n row e;
    }

-- what holds of all rows that parts name holds of each
pub each_part : (P : ℕ → Type 0) (parts : List Part) (i : ℕ) (p : Part) → AllByRecursion P (rows_of_parts parts) → i < length parts → p ≡ get_or parts i p → P p.inner.0
each_part P [] i p h lt e = absurd (omega arith)
each_part P (q ∷ qs) zero p h lt e = subst (λ (x : Part). P x.inner.0) (sym e) h.0
each_part P (q ∷ qs) (suc i) p h lt e = each_part P qs i p h.1 (omega arith) e

pub choice_down : (rows : List TypeRow) (n : ℕ) (row : TypeRow) (parts : List Part) → AreSoundRows rows → slice_get rows n ≡ Some row → row ≡ Choice parts → AllByRecursion (λ m. m < n) (rows_of_parts parts)
choice_down rows n row parts sound e c = subst (λ (r : TypeRow). AllByRecursion (λ m. m < n) (names_of r)) c ((sound_row rows sound n row e).down)

-- the rows that a row names lie below it, with the row's form known
pub down_as : (rows : List TypeRow) (n : ℕ) (row form : TypeRow) → AreSoundRows rows → slice_get rows n ≡ Some row → row ≡ form → AllByRecursion (λ m. m < n) (names_of form)
down_as rows n row form sound e c = subst (λ (r : TypeRow). AllByRecursion (λ m. m < n) (names_of r)) c ((sound_row rows sound n row e).down)

few_tests : (a b : Bool) → (a || b) ≡ false → b ≡ false
few_tests true b e = absurd cc
few_tests false b e = e

pub choice_few : (rows : List TypeRow) (n : ℕ) (row : TypeRow) (parts : List Part) → AreSoundRows rows → slice_get rows n ≡ Some row → row ≡ Choice parts → length parts ≤ 256
choice_few rows n row parts sound e c =
    let range : is_bad_range (Choice parts) ≡ false = rw c at ((sound_row rows sound n row e).range) in
    ltb-false 256 (length parts) (few_tests (nat_eq (length parts) 0) (nat_lt 256 (length parts)) range)

-- a value of any row begins with something
or_first : (a b : Bool) → a ≡ true → (a || b) ≡ true
or_first true b e = refl
or_first false b e = absurd cc

parts_open : (f : ℕ → List Opening) (ps : List Part) → is_bad_range (Choice (ps)) ≡ false → AllByRecursion (λ m. list_any (meets every) (f m) ≡ true) (rows_of_parts ps) → list_any (meets every) (flat_map (λ (p : Part). f p.inner.0) ps) ≡ true
parts_open f [] e h = absurd cc
parts_open f (p ∷ ps) e h = list_any-append (meets every) (f p.inner.0) (flat_map (λ (q : Part). f q.inner.0) ps) ∙ or_first _ _ h.0

row_opens : (f : ℕ → List Opening) (row : TypeRow) → is_bad_range row ≡ false → AllByRecursion (λ m. list_any (meets every) (f m) ≡ true) (names_of row) → list_any (meets every) (openings_by f row) ≡ true
row_opens f Boolean e h = refl
row_opens f (Integer low high) e h = refl
row_opens f (Enumerated items) e h = refl
row_opens f Null e h = refl
row_opens f (OctetString most) e h = refl
row_opens f BitString e h = refl
row_opens f ObjectId e h = refl
row_opens f (Text kind) e h = refl
row_opens f (Sequence parts) e h = refl
row_opens f (Set parts) e h = refl
row_opens f (SequenceOf inner) e h = refl
row_opens f (SetOf inner) e h = refl
row_opens f (Choice parts) e h = parts_open f parts e h
row_opens f (Tagged class number explicit inner) e h = refl
row_opens f Any e h = refl

each_lower : (P : ℕ → Type 0) (ns : List ℕ) (n : ℕ) → AllByRecursion (λ m. m < n) ns → ((m : ℕ) → m < n → P m) → AllByRecursion P ns
each_lower P [] n h p = tt
each_lower P (m ∷ ns) n h p = (p m h.0, each_lower P ns n h.1 p)

row_at : (rows : List TypeRow) (n : ℕ) → n < length rows → (row : TypeRow) × (slice_get rows n ≡ Some row)
row_at [] n lt = absurd (omega arith)
row_at (row ∷ rows) zero lt = (row, refl)
row_at (row ∷ rows) (suc n) lt = row_at rows n (omega arith)

opens_by : (rows : List TypeRow) → AreSoundRows rows → (bound n : ℕ) → n < bound → n < length rows → list_any (meets every) (openings rows n) ≡ true
opens_by rows sound zero n lt le = absurd (omega arith)
opens_by rows sound (suc bound) n lt le =
    let r = row_at rows n le in
    let s = sound_row rows sound n r.0 r.1 in
    ap (list_any (meets every)) s.opens ∙ row_opens (openings rows) r.0 s.range (each_lower (λ m. list_any (meets every) (openings rows m) ≡ true) (names_of r.0) n s.down (λ m l. opens_by rows sound bound m (omega arith) (omega arith)))

pub opens_some : (rows : List TypeRow) → AreSoundRows rows → (n : ℕ) → n < length rows → (list_any (meets every) (openings rows n) || false) ≡ true
opens_some rows sound n le = or_first _ false (opens_by rows sound (suc n) n (omega arith) le)

pub later_parts : (P : ℕ → Type 0) (ps : List Part) (n k : ℕ) → AllByRecursion P (rows_of_parts ps) → AllByRecursion P (rows_of_parts (take n (drop k ps)))
later_parts P ps zero k h = tt
later_parts P [] (suc n) zero h = tt
later_parts P [] (suc n) (suc k) h = tt
later_parts P (p ∷ ps) (suc n) zero h = (h.0, later_parts P ps n zero h.1)
later_parts P (p ∷ ps) (suc n) (suc k) h = later_parts P ps (suc n) k h.1

pub nesting_at : (rows : List TypeRow) → AreSoundRows rows → (n : ℕ) (row : TypeRow) → slice_get rows n ≡ Some row → nesting rows n ≡ nesting_by (nesting rows) row
unfolding nesting
nesting_at rows sound n row e = settled 0 nesting_by nesting_cong rows (is_down rows sound) n row e

pub nested_few : (rows : List TypeRow) (row : TypeRow) → refusal rows row ≡ None → nesting_by (nesting rows) row ≤ 32
nested_few rows row e = ltb-false 32 (nesting_by (nesting rows) row) ((taken rows row e).nested)

default_cong : (row : TypeRow) (f g : ℕ → ℤ → Bool) → AllByRecursion (λ m. f m ≡ g m) (names_of row) → default_by f row ≡ default_by g row
default_cong Boolean f g h = refl
default_cong (Integer low high) f g h = refl
default_cong (Enumerated items) f g h = refl
default_cong Null f g h = refl
default_cong (OctetString most) f g h = refl
default_cong BitString f g h = refl
default_cong ObjectId f g h = refl
default_cong (Text kind) f g h = refl
default_cong (Sequence parts) f g h = refl
default_cong (Set parts) f g h = refl
default_cong (SequenceOf inner) f g h = refl
default_cong (SetOf inner) f g h = refl
default_cong (Choice parts) f g h = refl
default_cong (Tagged class number explicit inner) f g h = h.0
default_cong Any f g h = refl

-- which defaults fit a row, by the row
pub takes_at : (rows : List TypeRow) → AreSoundRows rows → (n : ℕ) (row : TypeRow) → slice_get rows n ≡ Some row → takes_default rows n ≡ default_by (takes_default rows) row
unfolding takes_default
takes_at rows sound n row e = settled no_default default_by default_cong rows (is_down rows sound) n row e
