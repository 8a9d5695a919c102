-- In a value with a short spelling each item of a SET OF has one, so that such a value has its form exactly where items are found
-- to rise by short spellings.
use Rattle.std.proofs.Common.{◌≡◌, ℕ, zero, suc, ◌+◌, ◌<◌, ◌≤◌, Bool, true, false, not, ◌&&◌, List, [], ◌∷◌, ◌++◌, length, Option, Some, None, refl, sym, ap, ◌∙◌, subst, arith, length-append}
use Rattle.std.specs.Prelude.{slice_get}
use Rattle.std.specs.List.{AllByRecursion}
use Rattle.std.proofs.lemmas.Bool.{le-leb, leb-true}
use Rattle.std.proofs.lemmas.Option.{slice_get_past}
use Rattle.asn1_types.specs.declared.row.Class.TheVariants.{Universal}
use Rattle.asn1_types.specs.declared.row.Part.{Part}
use Rattle.asn1_types.specs.declared.row.TypeRow.{TypeRow}
use Rattle.asn1_types.specs.declared.row.TypeRow.TheVariants as row
use Rattle.asn1_types.specs.declared.row.Tag as tags
use Rattle.asn1_types.specs.Rows.{along, names_of, rows_of_parts}
use Rattle.asn1_types.specs.Defaults.{may_be_absent, is_default}
use Rattle.asn1_types.specs.Table.{AreSoundRows}
use Rattle.asn1_types.specs.Tags.{tag_or}
use Rattle.asn1_types.specs.Value.{Value, boolean, integer, null, octets, bits, object_id, text, parts, list, chosen, any, MaybeValues, no_parts, absent, present, Values, no_values, value}
use Rattle.asn1_types.specs.Fits.{parts_fit, sequence_fits, values_fit, list_fits, alternative_fits, choice_fits, form_by, nothing_fits, has_form, is_short, fits}
use Rattle.asn1_types.specs.PackedSize.{packed_size}
use Rattle.asn1_types.specs.Rising.{follows, rise_behind, rise, set_rises}
use Rattle.asn1_types.specs.Writing.{parts_contents, sequence_contents, set_parts, values_contents, list_contents, alternative_written, choice_written, definite, identifier, length_octets, under, write_by, writes, written}
use Rattle.asn1_types.proofs.Along.{settled}
use Rattle.asn1_types.proofs.Sound.{is_down}
use Rattle.asn1_types.proofs.FitLaws.{form_cong, form_at, form_past}
use Rattle.ber_spelling.proofs.WriteLaws.{writes_at}
use Rattle.ber_spelling.proofs.WrittenSets.{AllShort, set_short, first_short, rest_short}
use Rattle.ber_writing.specs.Short.{stand_so, stand_behind, stand_rising, set_stands, short_by, has_short_form}

-- ---- by the row

pub short_cong : (spell : ℕ → Value → List ℕ) (r : TypeRow) (f g : ℕ → Value → Bool) → AllByRecursion (λ m. f m ≡ g m) (names_of r) → short_by spell f r ≡ short_by spell g r
short_cong spell row.Boolean f g h = refl
short_cong spell (row.Integer low high) f g h = refl
short_cong spell (row.Enumerated items) f g h = refl
short_cong spell row.Null f g h = refl
short_cong spell (row.OctetString most) f g h = refl
short_cong spell row.BitString f g h = refl
short_cong spell row.ObjectId f g h = refl
short_cong spell (row.Text kind) f g h = refl
short_cong spell (row.Sequence ps) f g h = form_cong spell (row.Sequence ps) f g h
short_cong spell (row.Set ps) f g h = form_cong spell (row.Set ps) f g h
short_cong spell (row.SequenceOf inner) f g h = form_cong spell (row.SequenceOf inner) f g h
short_cong spell (row.SetOf inner) f g h = λ i v. list_fits (h.0 i) v && set_stands (spell inner.0) v
short_cong spell (row.Choice ps) f g h = form_cong spell (row.Choice ps) f g h
short_cong spell (row.Tagged class number explicit inner) f g h = form_cong spell (row.Tagged class number explicit inner) f g h
short_cong spell row.Any f g h = refl

pub short_at : (rows : List TypeRow) → AreSoundRows rows → (n : ℕ) (r : TypeRow) → slice_get rows n ≡ Some r → has_short_form rows n ≡ short_by (written rows) (has_short_form rows) r
unfolding has_short_form
short_at rows sound n r e = settled nothing_fits (short_by (written rows)) (short_cong (written rows)) rows (is_down rows sound) n r e

along_past : (spell : ℕ → Value → List ℕ) (rows : List TypeRow) (turns n : ℕ) (v : Value) → length rows ≤ n → along nothing_fits (short_by spell) rows turns n v ≡ false
along_past spell rows zero n v le = refl
along_past spell rows (suc turns) n v le = rw (slice_get_past rows n le) refl

pub short_past : (rows : List TypeRow) (n : ℕ) (v : Value) → length rows ≤ n → false ≡ has_short_form rows n v
unfolding has_short_form
short_past rows n v le = sym (along_past (written rows) rows (length rows) n v le)

none_past : (rows : List TypeRow) (n : ℕ) → slice_get rows n ≡ None → length rows ≤ n
none_past [] n e = omega arith
none_past (r ∷ rows) zero e = absurd cc
none_past (r ∷ rows) (suc n) e = let le = none_past rows n e in omega arith

-- ---- in short spellings

-- one more than the most octets
abbrev past : ℕ
past = 4294967296

contents_short : (constructed : Bool) (tag : tags.Tag) (contents : List ℕ) → length (definite constructed tag contents) < past → length contents < past
contents_short constructed tag contents lt =
    let front = length-append (identifier tag.class constructed tag.number) (length_octets (length contents) ++ contents) in
    let back = length-append (length_octets (length contents)) contents in
    omega (arith, front, back)

module _ (rows : List TypeRow) where
  -- the two tests agree on values with short spellings
  abbrev Agree : ℕ → Type 0
  Agree m = (tag : Option tags.Tag) (v : Value) → length (writes rows m tag v) < past → has_short_form rows m v ≡ has_form rows m v

  abbrev EachShort : List Part → MaybeValues → Type 0
  EachShort [] vs = Unit {0}
  EachShort (p ∷ ps) no_parts = Unit {0}
  EachShort (p ∷ ps) (absent vs) = EachShort ps vs
  EachShort (p ∷ ps) (present v vs) = (length (writes rows p.inner.0 None v) < past) × EachShort ps vs

  in_sequence : (ps : List Part) (vs : MaybeValues) → length (parts_contents (writes rows) ps vs) < past → EachShort ps vs
  in_sequence [] vs lt = tt
  in_sequence (p ∷ ps) no_parts lt = tt
  in_sequence (p ∷ ps) (absent vs) lt = in_sequence ps vs lt
  in_sequence (p ∷ ps) (present v vs) lt =
      let len = length-append (writes rows p.inner.0 None v) (parts_contents (writes rows) ps vs) in
      (omega (arith, len), in_sequence ps vs (omega (arith, len)))

  in_ranks : (ps : List Part) (vs : MaybeValues) → AllShort (writes rows) past ps vs → EachShort ps vs
  in_ranks [] vs h = tt
  in_ranks (p ∷ ps) no_parts h = tt
  in_ranks (p ∷ ps) (absent vs) h = in_ranks ps vs (λ k lt. h k lt)
  in_ranks (p ∷ ps) (present v vs) h = (first_short (writes rows) past p ps v vs h, in_ranks ps vs (rest_short (writes rows) past p ps v vs h))

  in_set : (ps : List Part) (vs : MaybeValues) → length (set_parts (writes rows) ps vs) < past → EachShort ps vs
  in_set ps vs lt = in_ranks ps vs (λ k below. set_short (writes rows) k past ps vs below lt)

  parts_agree : (ps : List Part) → AllByRecursion Agree (rows_of_parts ps) → (vs : MaybeValues) → EachShort ps vs → parts_fit (has_short_form rows) ps vs ≡ parts_fit (has_form rows) ps vs
  parts_agree [] h no_parts s = refl
  parts_agree [] h (absent vs) s = refl
  parts_agree [] h (present v vs) s = refl
  parts_agree (p ∷ ps) h no_parts s = refl
  parts_agree (p ∷ ps) h (absent vs) s = ap (λ b. may_be_absent p && b) (parts_agree ps h.1 vs s)
  parts_agree (p ∷ ps) h (present v vs) s = λ i. (not (is_default p.default v) && h.0 None v s.0 i) && parts_agree ps h.1 vs s.1 i

  sequence_agree : (ps : List Part) (write : MaybeValues → List ℕ) → ((vs : MaybeValues) → length (write vs) < past → EachShort ps vs) → AllByRecursion Agree (rows_of_parts ps) → (v : Value) → length (sequence_contents write v) < past
      → sequence_fits (parts_fit (has_short_form rows) ps) v ≡ sequence_fits (parts_fit (has_form rows) ps) v
  sequence_agree ps write each h (parts vs) lt = parts_agree ps h vs (each vs lt)
  sequence_agree ps write each h (boolean x) lt = refl
  sequence_agree ps write each h (integer x) lt = refl
  sequence_agree ps write each h null lt = refl
  sequence_agree ps write each h (octets x) lt = refl
  sequence_agree ps write each h (bits x n) lt = refl
  sequence_agree ps write each h (object_id x) lt = refl
  sequence_agree ps write each h (text x) lt = refl
  sequence_agree ps write each h (list x) lt = refl
  sequence_agree ps write each h (chosen n x) lt = refl
  sequence_agree ps write each h (any x) lt = refl

  abbrev ItemsShort : ℕ → Values → Type 0
  ItemsShort n no_values = Unit {0}
  ItemsShort n (value v vs) = (length (writes rows n None v) < past) × ItemsShort n vs

  in_list : (n : ℕ) (vs : Values) → length (values_contents (writes rows n) vs) < past → ItemsShort n vs
  in_list n no_values lt = tt
  in_list n (value v vs) lt =
      let len = length-append (writes rows n None v) (values_contents (writes rows n) vs) in
      (omega (arith, len), in_list n vs (omega (arith, len)))

  values_agree : (n : ℕ) → Agree n → (vs : Values) → ItemsShort n vs → values_fit (has_short_form rows n) vs ≡ values_fit (has_form rows n) vs
  values_agree n h no_values s = refl
  values_agree n h (value v vs) s = λ i. h None v s.0 i && values_agree n h vs s.1 i

  is_short_so : (n : ℕ) (v : Value) → length (writes rows n None v) < past → is_short (length (written rows n v)) ≡ true
  unfolding written
  is_short_so n v lt = le-leb (length (writes rows n None v)) 4294967295 (omega arith)

  so_follows : (n : ℕ) (v w : Value) → length (writes rows n None v) < past → length (writes rows n None w) < past → stand_so (written rows n) v w ≡ follows (written rows n) v w
  so_follows n v w a b = rw (is_short_so n v a, is_short_so n w b) refl

  behind_rises : (n : ℕ) (v : Value) (vs : Values) → length (writes rows n None v) < past → ItemsShort n vs → stand_behind (written rows n) v vs ≡ rise_behind (written rows n) v vs
  behind_rises n v no_values lt s = refl
  behind_rises n v (value w ws) lt s = λ i. so_follows n v w lt s.0 i && behind_rises n w ws s.0 s.1 i

  rising : (n : ℕ) (vs : Values) → ItemsShort n vs → stand_rising (written rows n) vs ≡ rise (written rows n) vs
  rising n no_values s = refl
  rising n (value v vs) s = behind_rises n v vs s.0 s.1

  list_agree : (n : ℕ) → Agree n → (v : Value) → length (list_contents (writes rows n) v) < past → list_fits (has_short_form rows n) v ≡ list_fits (has_form rows n) v
  list_agree n h (list vs) lt = values_agree n h vs (in_list n vs lt)
  list_agree n h (boolean x) lt = refl
  list_agree n h (integer x) lt = refl
  list_agree n h null lt = refl
  list_agree n h (octets x) lt = refl
  list_agree n h (bits x m) lt = refl
  list_agree n h (object_id x) lt = refl
  list_agree n h (text x) lt = refl
  list_agree n h (parts x) lt = refl
  list_agree n h (chosen m x) lt = refl
  list_agree n h (any x) lt = refl

  set_agree : (n : ℕ) (v : Value) → length (list_contents (writes rows n) v) < past → set_stands (written rows n) v ≡ set_rises (written rows n) v
  set_agree n (list vs) lt = rising n vs (in_list n vs lt)
  set_agree n (boolean x) lt = refl
  set_agree n (integer x) lt = refl
  set_agree n null lt = refl
  set_agree n (octets x) lt = refl
  set_agree n (bits x m) lt = refl
  set_agree n (object_id x) lt = refl
  set_agree n (text x) lt = refl
  set_agree n (parts x) lt = refl
  set_agree n (chosen m x) lt = refl
  set_agree n (any x) lt = refl

  alternative_agree : (ps : List Part) → AllByRecursion Agree (rows_of_parts ps) → (which : ℕ) (v : Value) → length (alternative_written (writes rows) (slice_get ps which) v) < past
      → alternative_fits (has_short_form rows) (slice_get ps which) v ≡ alternative_fits (has_form rows) (slice_get ps which) v
  alternative_agree [] h which v lt = refl
  alternative_agree (p ∷ ps) h zero v lt = h.0 None v lt
  alternative_agree (p ∷ ps) h (suc which) v lt = alternative_agree ps h.1 which v lt

  choice_agree : (ps : List Part) → AllByRecursion Agree (rows_of_parts ps) → (v : Value) → length (choice_written (λ which. alternative_written (writes rows) (slice_get ps which)) v) < past
      → choice_fits (λ which. alternative_fits (has_short_form rows) (slice_get ps which)) v ≡ choice_fits (λ which. alternative_fits (has_form rows) (slice_get ps which)) v
  choice_agree ps h (chosen which v) lt = alternative_agree ps h which v lt
  choice_agree ps h (boolean x) lt = refl
  choice_agree ps h (integer x) lt = refl
  choice_agree ps h null lt = refl
  choice_agree ps h (octets x) lt = refl
  choice_agree ps h (bits x n) lt = refl
  choice_agree ps h (object_id x) lt = refl
  choice_agree ps h (text x) lt = refl
  choice_agree ps h (parts x) lt = refl
  choice_agree ps h (list x) lt = refl
  choice_agree ps h (any x) lt = refl

  under_short : (write : Value → List ℕ) (tag : Option tags.Tag) (v : Value) → length (under write tag v) < past → length (write v) < past
  under_short write None v lt = lt
  under_short write (Some tag) v lt = contents_short true tag (write v) lt

  row_agree : (r : TypeRow) → AllByRecursion Agree (names_of r) → (tag : Option tags.Tag) (v : Value) → length (write_by (writes rows) r tag v) < past → short_by (written rows) (has_short_form rows) r v ≡ form_by (written rows) (has_form rows) r v
  row_agree row.Boolean h tag v lt = refl
  row_agree (row.Integer low high) h tag v lt = refl
  row_agree (row.Enumerated items) h tag v lt = refl
  row_agree row.Null h tag v lt = refl
  row_agree (row.OctetString most) h tag v lt = refl
  row_agree row.BitString h tag v lt = refl
  row_agree row.ObjectId h tag v lt = refl
  row_agree (row.Text kind) h tag v lt = refl
  row_agree (row.Sequence ps) h tag v lt = sequence_agree ps (parts_contents (writes rows) ps) (in_sequence ps) h v (contents_short true (tag_or tag Universal 16) (sequence_contents (parts_contents (writes rows) ps) v) lt)
  row_agree (row.Set ps) h tag v lt = sequence_agree ps (set_parts (writes rows) ps) (in_set ps) h v (contents_short true (tag_or tag Universal 17) (sequence_contents (set_parts (writes rows) ps) v) lt)
  row_agree (row.SequenceOf inner) h tag v lt = list_agree inner.0 h.0 v (contents_short true (tag_or tag Universal 16) (list_contents (writes rows inner.0) v) lt)
  row_agree (row.SetOf inner) h tag v lt =
      let short = contents_short true (tag_or tag Universal 17) (list_contents (writes rows inner.0) v) lt in
      λ i. list_agree inner.0 h.0 v short i && set_agree inner.0 v short i
  row_agree (row.Choice ps) h tag v lt = choice_agree ps h v (under_short (choice_written (λ which. alternative_written (writes rows) (slice_get ps which))) tag v lt)
  row_agree (row.Tagged class number true inner) h tag v lt = h.0 None v (contents_short true (tag_or tag class number) (writes rows inner.0 None v) lt)
  row_agree (row.Tagged class number false inner) h tag v lt = h.0 (Some (tag_or tag class number)) v lt
  row_agree row.Any h tag v lt = refl

  each_below : (ns : List ℕ) (n : ℕ) → AllByRecursion (λ m. m < n) ns → ((m : ℕ) → m < n → Agree m) → AllByRecursion Agree ns
  each_below [] n h each = tt
  each_below (m ∷ ns) n h each = (each m h.0, each_below ns n h.1 each)

  module _ (sound : AreSoundRows rows) where
    agree : (bound n : ℕ) → n < bound → Agree n
    agree zero n lt tag v short = absurd (omega arith)
    agree (suc bound) n lt tag v short = by_row (slice_get rows n) refl (λ m less. agree bound m (omega arith))
      where
        by_row : (o : Option TypeRow) → slice_get rows n ≡ o → ((m : ℕ) → m < n → Agree m) → has_short_form rows n v ≡ has_form rows n v
        by_row None e h = let le = none_past rows n e in sym (short_past rows n v le) ∙ form_past rows n v le
        by_row (Some r) e h =
            let down = is_down rows sound in
            let len : length (write_by (writes rows) r tag v) < past = subst (λ w. length (w tag v) < past) (writes_at rows sound n r e) short in
            ap (λ f. f v) (short_at rows sound n r e) ∙ row_agree r (each_below (names_of r) n (down.lower n r e) h) tag v len ∙ ap (λ f. f v) (sym (form_at rows sound n r e))

and_no : (h s t : Bool) → false ≡ s → false ≡ (h && (s && t))
and_no true false t e = refl
and_no false s t e = refl
and_no true true t e = absurd cc

and_turns : (b s : Bool) → (b && s) ≡ (s && (true && b))
and_turns true true = refl
and_turns true false = refl
and_turns false true = refl
and_turns false false = refl

-- what the code tells is whether a value fits
pub fits_told : (rows : List TypeRow) → AreSoundRows rows → (n : ℕ) (v : Value) (a b : Bool) → a ≡ is_short (length (written rows n v)) → b ≡ is_short (packed_size rows n v) → ((a && b) && has_short_form rows n v) ≡ fits rows n v
unfolding fits written
fits_told rows sound n v false b e f = and_no (has_form rows n v) (is_short (length (writes rows n None v))) (is_short (packed_size rows n v)) e
fits_told rows sound n v true b e f =
    let le : length (writes rows n None v) ≤ 4294967295 = leb-true (length (writes rows n None v)) 4294967295 (sym e) in
    let same : has_short_form rows n v ≡ has_form rows n v = agree rows sound (suc n) n (omega arith) None v (omega arith) in
    ap (λ (x : Bool). b && x) same ∙ and_turns b (has_form rows n v) ∙ (λ i. has_form rows n v && (e i && f i))

-- as the code has it: short spellings and short forms
pub fits_so : (rows : List TypeRow) → AreSoundRows rows → (n : ℕ) (v : Value) (s : Bool) → s ≡ (is_short (length (written rows n v)) && is_short (packed_size rows n v)) → (s && has_short_form rows n v) ≡ fits rows n v
fits_so rows sound n v s e = ap (λ (x : Bool). x && has_short_form rows n v) e ∙ fits_told rows sound n v (is_short (length (written rows n v))) (is_short (packed_size rows n v)) refl refl

pub fits_past : (rows : List TypeRow) (n : ℕ) (v : Value) → length rows ≤ n → false ≡ fits rows n v
unfolding fits
fits_past rows n v le = ap (λ (x : Bool). x && (is_short (length (written rows n v)) && is_short (packed_size rows n v))) (form_past rows n v le)
