-- Fields: what is spelled so is read.
use Rattle.std.proofs.Common.{◌≡◌, ℕ, zero, suc, ◌+◌, ◌<◌, Bool, true, false, not, ◌&&◌, List, [], ◌∷◌, ◌++◌, length, take, drop, Option, Some, None, Ok, refl, sym, ap, ◌∙◌, subst, append_assoc, inl, inr}
use Rattle.std.specs.Prelude.{slice_get}
use Rattle.std.proofs.lemmas.Bool.{and_parts}
use Rattle.asn1_types.specs.declared.row.Class.{Class}
use Rattle.asn1_types.specs.declared.row.TypeRow.{TypeRow}
use Rattle.asn1_types.specs.Rows.{is_no_tag}
use Rattle.asn1_types.specs.Table.{AreSoundRows}
use Rattle.asn1_types.specs.Value.{Value}
use Rattle.ber_spelling.specs.declared.spot.Scope.{Scope}
use Rattle.asn1_types.specs.declared.row.Tag as tags
use Rattle.ber_spelling.specs.Reading.{Spot, Reading, Opened}
use Rattle.ber_spelling.specs.Rules.{plain, reads, list_item_at, any_at, whole_at}
use Rattle.ber_spelling.specs.Spelling.{AnyIs, ListStep, ItemsAre, SpelledBy, IsConstructed}
use Rattle.ber_spelling.proofs.Identifiers.{IsIn}
use Rattle.ber_spelling.proofs.Steady.{RunOf, ReadBack, Only, only_wider, OfTag, class_itself, eqb_itself}
use Rattle.ber_spelling.proofs.Constructed.{constructed_only}
use Rattle.ber_spelling.proofs.Items.{all_only}
use Rattle.ber_spelling.proofs.WholeReads.{IsTagged, whole_only}
use Rattle.ber_spelling.proofs.Anys.{any_only}
use Rattle.ber_spelling.proofs.RowLaws.{Allowed, along_only}
use Rattle.std.proofs.lemmas.Bool.{lt-ltb}
use Rattle.passed_fields.specs.declared.field.Field as known
use Rattle.passed_fields.specs.declared.field.Passed as over
use Rattle.passed_fields.specs.declared.field.Holds.{Holds}
use Rattle.passed_fields.specs.declared.field.Holds.TheVariants as holds
use Rattle.passed_fields.specs.Known.{is_kept, has_other_tag, are_apart}
use Rattle.passed_fields.specs.Passing.{is_of, are_optional, nones, is_over, passes}
use Rattle.passed_fields.specs.Reading.{some_done, some_items_at, some_at, tag_of, held_by, known_at, field_at, fields_done, fields_at, fielded_at}
use Rattle.passed_fields.specs.Spelling.{HasTag, SomeItems, HeldIs, FieldStep, FieldsAre, FieldedIs}
use Rattle.passed_fields.proofs.Tags.{tag_opens}

abbrev Whatever : Class → ℕ → Type 0
Whatever class number = Unit {0}

back : {A C : Type 0} (B D : Class → ℕ → Type 0) (r : RunOf A) (q : RunOf C) (scope : Scope) (place : ℕ) (text rest : List ℕ) (v : A) (w : C) (b : ReadBack B r scope place text rest v) → D b.opened.class b.opened.number
    → q scope b.opened b.spot ≡ Ok (w, record { place = place + length text; rest = rest }) → ReadBack D q scope place text rest w
back B D r q scope place text rest v w b d e = record { opened = b.opened; spot = b.spot; first = b.first; others = b.others; begins = b.begins; some = b.some; opens = b.opens; allowed = d; reads = e }

not_is : (b : Bool) → not b ≡ true → b ≡ false
not_is true e = absurd cc
not_is false e = refl

module _ (rows : List TypeRow) (sound : AreSoundRows rows) where
  row_only : (of : ℕ) → Only (Allowed rows of None) (reads rows of plain) (λ strict levels v text. SpelledBy rows (length rows) of plain strict levels v text)
  unfolding reads
  row_only of = along_only rows sound (length rows) of plain tt

  item_only : (of : ℕ) (before : List Value) → Only (Allowed rows of None) (list_item_at (reads rows of) before) (ListStep (SpelledBy rows (length rows) of) before)
  item_only of before = record {
    only = λ scope place vs text rest p here.
        let r = (row_only of).only scope place p.0 text rest p.2 here in
        back (Allowed rows of None) (Allowed rows of None) (reads rows of plain) (list_item_at (reads rows of) before) scope place text rest p.0 vs r r.allowed
        (rw r.reads (ap (λ (y : List Value). Ok (y, record { place = place + length text; rest = rest })) (sym p.1)));
  }

  pub some_only : (of : ℕ) (tag : tags.Tag) → is_no_tag tag.class tag.number ≡ false → Only (OfTag tag) (some_at (reads rows of) tag) (λ strict levels v text. IsConstructed tag strict levels (λ inner contents. SomeItems rows of strict inner v contents) text)
  some_only of tag tagged =
      constructed_only (some_items_at (reads rows of)) tag (ItemsAre some_done (ListStep (SpelledBy rows (length rows) of)) []) tagged (all_only (Allowed rows of None) (list_item_at (reads rows of)) some_done (ListStep (SpelledBy rows (length rows) of)) [] (item_only of))

  held_only : (tag : tags.Tag) (h : Holds) → is_no_tag tag.class tag.number ≡ false → Only Whatever (held_by rows tag h) (λ strict levels v text. HeldIs rows tag h strict levels v text)
  held_only tag (holds.Row of) tagged = only_wider (Allowed rows of.0 None) Whatever (reads rows of.0 plain) (λ strict levels v text. SpelledBy rows (length rows) of.0 plain strict levels v text) (λ c k b. tt) (row_only of.0)
  held_only tag holds.Any tagged = only_wider IsTagged Whatever any_at (λ strict. AnyIs) (λ c k b. tt) any_only
  held_only tag (holds.Some of) tagged = only_wider (OfTag tag) Whatever (some_at (reads rows of.0) tag) (λ strict levels v text. IsConstructed tag strict levels (λ inner contents. SomeItems rows of.0 strict inner v contents) text) (λ c k b. tt) (some_only of.0 tag tagged)

  is_field : (f : known.Field) (class : Class) (number : ℕ) → class ≡ f.class → number ≡ f.number → f.number < 31 → is_of f class number ≡ true
  is_field f class number c n low =
      let small : f.number < 31 = low in
      rw (c, n, class_itself f.class, eqb_itself f.number, lt-ltb f.number 31 small) refl

  kept_tagged : (passed : List over.Passed) (class : Class) (number : ℕ) → is_kept passed class number ≡ true → is_no_tag class number ≡ false
  kept_tagged [] class number k = not_is (is_no_tag class number) k
  kept_tagged (p ∷ ps) class number k = kept_tagged ps class number (and_parts (not (is_over p class number)) (is_kept ps class number) k).1

  kept_passes : (passed : List over.Passed) (settled : ℕ) (class : Class) (number : ℕ) → is_kept passed class number ≡ true → passes passed settled class number ≡ None
  kept_passes [] settled class number k = refl
  kept_passes (p ∷ ps) settled class number k =
      let a = and_parts (not (is_over p class number)) (is_kept ps class number) k in
      rw (not_is (is_over p class number) a.0) (kept_passes ps settled class number a.1)

  other : (f g : known.Field) (fs : List known.Field) (n : ℕ) → has_other_tag f fs ≡ true → slice_get fs n ≡ Some g → is_of f g.class g.number ≡ false
  other f g [] n h e = absurd cc
  other f g (x ∷ fs) zero h e =
      let same : x ≡ g = cc in
      subst (λ (y : known.Field). is_of f y.class y.number ≡ false) same (not_is (is_of f x.class x.number) (and_parts (not (is_of f x.class x.number)) (has_other_tag f fs) h).0)
  other f g (x ∷ fs) (suc n) h e = other f g fs n (and_parts (not (is_of f x.class x.number)) (has_other_tag f fs) h).1 e

  kept_each : (fs : List known.Field) (passed : List over.Passed) (n : ℕ) (g : known.Field) → are_apart fs passed ≡ true → slice_get fs n ≡ Some g → is_kept passed g.class g.number ≡ true
  kept_each [] passed n g a e = absurd cc
  kept_each (f ∷ fs) passed zero g a e =
      let p = and_parts (has_other_tag f fs && is_kept passed f.class f.number) (are_apart fs passed) a in
      let q = and_parts (has_other_tag f fs) (is_kept passed f.class f.number) p.0 in
      let same : f ≡ g = cc in
      subst (λ (y : known.Field). is_kept passed y.class y.number ≡ true) same q.1
  kept_each (f ∷ fs) passed (suc n) g a e = kept_each fs passed n g (and_parts (has_other_tag f fs && is_kept passed f.class f.number) (are_apart fs passed) a).1 e

  apart_behind : (fs : List known.Field) (passed : List over.Passed) (n : ℕ) → are_apart fs passed ≡ true → are_apart (drop n fs) passed ≡ true
  apart_behind fs passed zero a = a
  apart_behind [] passed (suc n) a = a
  apart_behind (f ∷ fs) passed (suc n) a = apart_behind fs passed n (and_parts (has_other_tag f fs && is_kept passed f.class f.number) (are_apart fs passed) a).1

  -- what isn't the first field, which is optional, is one of the others
  absent_first : (f : known.Field) (fs : List known.Field) (before : List (Option Value)) (scope : Scope) (o : Opened) (s : Spot) (w : Reading (List (Option Value) × Spot)) → is_of f o.class o.number ≡ false → f.optional ≡ true
      → known_at rows fs (before ++ None ∷ []) scope o s ≡ w → known_at rows (f ∷ fs) before scope o s ≡ w
  unfolding known_at
  absent_first f fs before scope o s w other may e = rw (other, may) e

  -- read back, with the tag of the field that stands
  abbrev OfField : known.Field → Class → ℕ → Type 0
  OfField f class number = (class ≡ f.class) × (number ≡ f.number)

  known_back : (passed : List over.Passed) (next : List known.Field) (before : List (Option Value)) (absent : ℕ) (field : known.Field) (value : Value) → are_apart next passed ≡ true → slice_get next absent ≡ Some field → are_optional (take absent next) ≡ true
      → (scope : Scope) (place : ℕ) (text rest : List ℕ) → HasTag field.class field.number text → HeldIs rows (tag_of field) field.holds scope.strict scope.levels value text → IsIn scope (place + length text)
      → ReadBack (OfField field) (known_at rows next before) scope place text rest (before ++ (nones absent ++ Some value ∷ []))
  unfolding known_at
  known_back passed [] before absent field value a lies may scope place text rest has h here = absurd cc
  known_back passed (f ∷ fs) before zero field value a lies may scope place text rest has h here =
      let same : f ≡ field = cc in
      let kept = kept_each (f ∷ fs) passed 0 field a lies in
      let r = (held_only (tag_of field) field.holds (kept_tagged passed field.class field.number kept)).only scope place value text rest h here in
      let t = tag_opens scope place text rest r.first r.others r.opened r.spot field.class field.number r.begins r.opens has in
      let is : is_of field r.opened.class r.opened.number ≡ true = is_field field r.opened.class r.opened.number t.0 t.1 has.low in
      subst (λ (y : known.Field). ReadBack (OfField field) (known_at rows (y ∷ fs) before) scope place text rest (before ++ Some value ∷ [])) (sym same)
      (back Whatever (OfField field) (held_by rows (tag_of field) field.holds) (known_at rows (field ∷ fs) before) scope place text rest value (before ++ Some value ∷ []) r t (rw (is, r.reads) refl))
  known_back passed (f ∷ fs) before (suc n) field value a lies may scope place text rest has h here =
      let p = and_parts (has_other_tag f fs && is_kept passed f.class f.number) (are_apart fs passed) a in
      let q = and_parts (has_other_tag f fs) (is_kept passed f.class f.number) p.0 in
      let m = and_parts f.optional (are_optional (take n fs)) may in
      let r = known_back passed fs (before ++ None ∷ []) n field value p.1 lies m.1 scope place text rest has h here in
      let not_f : is_of f r.opened.class r.opened.number ≡ false = rw (r.allowed.0, r.allowed.1) (other f field fs n q.0 lies) in
      let found : (before ++ None ∷ []) ++ (nones n ++ Some value ∷ []) ≡ before ++ (nones (suc n) ++ Some value ∷ []) = append_assoc before (None ∷ []) (nones n ++ Some value ∷ []) in
      back (OfField field) (OfField field) (known_at rows fs (before ++ None ∷ [])) (known_at rows (f ∷ fs) before) scope place text rest ((before ++ None ∷ []) ++ (nones n ++ Some value ∷ [])) (before ++ (nones (suc n) ++ Some value ∷ [])) r r.allowed
      (absent_first f fs before scope r.opened r.spot _ not_f m.0 (r.reads ∙ ap (λ (y : List (Option Value)). Ok (y, record { place = place + length text; rest = rest })) found))

  module _ (fields : List known.Field) (passed : List over.Passed) (apart : are_apart fields passed ≡ true) where
    field_back : (before : List (Option Value)) (scope : Scope) (place : ℕ) (after : List (Option Value)) (text rest : List ℕ) → FieldStep rows fields passed before scope.strict scope.levels after text → IsIn scope (place + length text)
        → ReadBack Whatever (field_at rows fields passed before) scope place text rest after
    unfolding field_at
    field_back before scope place after text rest (inl k) here =
        let next : List known.Field = drop (length before) fields in
        let there = apart_behind fields passed (length before) apart in
        let r = known_back passed next before k.absent k.field k.value there k.lies k.may scope place text rest k.has_tag k.holds here in
        let kept = kept_each next passed k.absent k.field there k.lies in
        let none : passes passed (length before) r.opened.class r.opened.number ≡ None = rw (r.allowed.0, r.allowed.1) (kept_passes passed (length before) k.field.class k.field.number kept) in
        back (OfField k.field) Whatever (known_at rows next before) (field_at rows fields passed before) scope place text rest (before ++ (nones k.absent ++ Some k.value ∷ [])) after r tt
        (rw none (r.reads ∙ ap (λ (y : List (Option Value)). Ok (y, record { place = place + length text; rest = rest })) (sym k.is_after)))
    field_back before scope place after text rest (inr k) here =
        let r = (whole_only 32 tt).only scope place tt text rest (k.level, k.whole) here in
        let t = tag_opens scope place text rest r.first r.others r.opened r.spot k.class k.number r.begins r.opens k.has_tag in
        let over : passes passed (length before) r.opened.class r.opened.number ≡ Some k.settled = rw (t.0, t.1) k.allowed in
        back IsTagged Whatever (whole_at 32 tt) (field_at rows fields passed before) scope place text rest tt after r tt
        (rw (over, r.reads) (ap (λ (y : List (Option Value)). Ok (y, record { place = place + length text; rest = rest })) (sym k.is_after)))

    field_only : (before : List (Option Value)) → Only Whatever (field_at rows fields passed before) (FieldStep rows fields passed before)
    field_only before = record { only = λ scope place after text rest p here. field_back before scope place after text rest p here }

    pub fields_only : (tag : tags.Tag) → is_no_tag tag.class tag.number ≡ false → Only (OfTag tag) (fielded_at rows fields passed tag) (λ strict levels v text. FieldedIs rows fields passed tag strict levels v text)
    fields_only tag tagged =
        constructed_only (fields_at rows fields passed) tag (λ strict levels v c. FieldsAre rows fields passed strict levels v c) tagged (all_only Whatever (field_at rows fields passed) (fields_done fields) (FieldStep rows fields passed) [] field_only)
