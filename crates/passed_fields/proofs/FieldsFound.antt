-- Fields: what is read is spelled so.
use Rattle.std.proofs.Common.{◌≡◌, ℕ, suc, ◌-◌, ◌+◌, ◌<◌, Bool, true, false, ◌&&◌, List, [], ◌∷◌, ◌++◌, length, take, drop, Option, Some, None, Ok, Err, refl, sym, ap, ◌∙◌, subst, arith, append_assoc, inl, inr}
use Rattle.std.specs.Prelude.{nat_lt, nat_le, nat_eq, if◌then◌else◌}
use Rattle.std.proofs.lemmas.Bool.{and_parts, ltb-true, eqb-true}
use Rattle.osi_base.specs.declared.layer_words.Kind.TheVariants.{Missing, Extra}
use Rattle.asn1_types.specs.declared.row.Class.{Class}
use Rattle.asn1_types.specs.declared.row.Class.TheVariants.{Context}
use Rattle.asn1_types.specs.declared.row.TypeRow.{TypeRow}
use Rattle.asn1_types.specs.Rows.{same_class}
use Rattle.asn1_types.specs.Value.{Value, any, boolean, integer, null, octets, bits, object_id, parts, list, chosen}
use Rattle.asn1_types.specs.Value as tree
use Rattle.ber_spelling.specs.declared.fault.ReadFault.TheVariants as faults
use Rattle.ber_spelling.specs.declared.spot.Scope.{Scope}
use Rattle.asn1_types.specs.declared.row.Tag as tags
use Rattle.osi_base.specs.Octets.{AreOctets}
use Rattle.ber_spelling.specs.Fields.{identifier_at}
use Rattle.ber_spelling.specs.Reading.{Spot, Opened}
use Rattle.ber_spelling.specs.Rules.{plain, reads, list_item_at, whole_at}
use Rattle.ber_spelling.specs.Spelling.{AnyIs, ListStep, ItemsAre, SpelledBy, IsConstructed}
use Rattle.ber_spelling.proofs.Identifiers.{bind_ok, chosen_ok, ok_is, done}
use Rattle.ber_spelling.proofs.Steady.{ReadAs, Found, same_classes}
use Rattle.ber_spelling.proofs.Constructed.{constructed_found}
use Rattle.ber_spelling.proofs.Items.{all_found}
use Rattle.ber_spelling.proofs.WholeReads.{whole_found}
use Rattle.ber_spelling.proofs.Anys.{any_found}
use Rattle.ber_spelling.proofs.Heads.{along_headed}
use Rattle.ber_spelling.proofs.RowLaws.{along_found}
use Rattle.passed_fields.specs.declared.field.Field as known
use Rattle.passed_fields.specs.declared.field.Passed as over
use Rattle.passed_fields.specs.declared.field.Holds.{Holds}
use Rattle.passed_fields.specs.declared.field.Holds.TheVariants as holds
use Rattle.passed_fields.specs.Passing.{is_of, are_optional, nones, is_over, settled_behind, or_else, passes}
use Rattle.passed_fields.specs.Reading.{some_done, some_items_at, some_at, tag_of, held_by, known_at, field_by, field_at, fields_done, fields_at, fielded_at}
use Rattle.passed_fields.specs.Spelling.{HasTag, SomeItems, HeldIs, KnownStep, FieldStep, FieldsAre, FieldedIs}
use Rattle.passed_fields.proofs.Tags.{headed_some, constructed_some, whole_some, text_tag}

module _ (rows : List TypeRow) where
  row_found : (of : ℕ) → Found (reads rows of plain) (λ strict levels v text. SpelledBy rows (length rows) of plain strict levels v text)
  unfolding reads
  row_found of = along_found rows (length rows) of plain

  item_found : (of : ℕ) (before : List Value) → Found (list_item_at (reads rows of) before) (ListStep (SpelledBy rows (length rows) of) before)
  item_found of before = record {
    found = λ scope place rest o s vs to are opens e.
        let b = bind_ok (reads rows of plain scope o s) (λ v. Ok (before ++ v.0 ∷ [], v.1)) (vs, to) e in
        let same = ok_is {A = List Value × Spot} (before ++ b.0.0 ∷ [], b.0.1) (vs, to) b.2 in
        let r = (row_found of).found scope place rest o s b.0.0 b.0.1 are opens b.1 in
        subst (λ (y : List Value × Spot). ReadAs (ListStep (SpelledBy rows (length rows) of) before) scope place rest y.0 y.1) same (record { text = r.text; taken = r.taken; spelled = (b.0.0, refl, r.spelled); is_in = r.is_in });
  }

  pub some_found : (of : ℕ) (tag : tags.Tag) → Found (some_at (reads rows of) tag) (λ strict levels v text. IsConstructed tag strict levels (λ inner contents. SomeItems rows of strict inner v contents) text)
  some_found of tag =
      constructed_found (some_items_at (reads rows of)) tag (ItemsAre some_done (ListStep (SpelledBy rows (length rows) of)) []) (all_found (list_item_at (reads rows of)) some_done (ListStep (SpelledBy rows (length rows) of)) [] (item_found of))

  held_found : (tag : tags.Tag) (h : Holds) → Found (held_by rows tag h) (λ strict levels v text. HeldIs rows tag h strict levels v text)
  held_found tag (holds.Row of) = row_found of.0
  held_found tag holds.Any = any_found
  held_found tag (holds.Some of) = some_found of.0 tag

  any_some : (levels : ℕ) (v : Value) (text : List ℕ) → AnyIs levels v text → 0 < length text
  any_some levels (any os) t p = let some = whole_some 32 os p.2 in let len : length t ≡ length os = ap length p.1 in omega arith
  any_some levels (boolean x) t p = absurd p
  any_some levels (integer x) t p = absurd p
  any_some levels null t p = absurd p
  any_some levels (octets x) t p = absurd p
  any_some levels (bits x y) t p = absurd p
  any_some levels (object_id x) t p = absurd p
  any_some levels (tree.text x) t p = absurd p
  any_some levels (parts x) t p = absurd p
  any_some levels (list x) t p = absurd p
  any_some levels (chosen x y) t p = absurd p

  held_some : (tag : tags.Tag) (h : Holds) (strict : Bool) (levels : ℕ) (v : Value) (text : List ℕ) → HeldIs rows tag h strict levels v text → 0 < length text
  held_some tag (holds.Row of) strict levels v text p = headed_some text ((along_headed rows (length rows) of.0).is plain strict levels v text p)
  held_some tag holds.Any strict levels v text p = any_some levels v text p
  held_some tag (holds.Some of) strict levels v text p = constructed_some tag strict levels (λ inner contents. SomeItems rows of.0 strict inner v contents) text p

  -- a field of this tag
  pub record IsOfField (f : known.Field) (o : Opened) : Type 0 where
    pub class : o.class ≡ f.class
    pub number : o.number ≡ f.number
    pub low : o.number < 31

  is_field : (f : known.Field) (o : Opened) → is_of f o.class o.number ≡ true → IsOfField f o
  is_field f o e =
      let a = and_parts (same_class o.class f.class && nat_eq o.number f.number) (nat_lt o.number 31) e in
      let b = and_parts (same_class o.class f.class) (nat_eq o.number f.number) a.0 in
      record { class = same_classes o.class f.class b.0; number = eqb-true o.number f.number b.1; low = ltb-true o.number 31 a.1 }

  both_true : (a b : Bool) → a ≡ true → b ≡ true → (a && b) ≡ true
  both_true a b x y = rw (x, y) refl

  -- a field more that doesn't stand
  one_absent : (f : known.Field) (fs : List known.Field) (before : List (Option Value)) (strict : Bool) (levels : ℕ) (after : List (Option Value)) (text : List ℕ) → f.optional ≡ true
      → KnownStep rows fs (before ++ None ∷ []) strict levels after text → KnownStep rows (f ∷ fs) before strict levels after text
  one_absent f fs before strict levels after text may k = record {
    absent = suc k.absent;
    field = k.field;
    value = k.value;
    lies = k.lies;
    may = both_true f.optional (are_optional (take k.absent fs)) may k.may;
    has_tag = k.has_tag;
    holds = k.holds;
    is_after = k.is_after ∙ append_assoc before (None ∷ []) (nones k.absent ++ Some k.value ∷ []);
  }

  known_found : (next : List known.Field) (before : List (Option Value)) → Found (known_at rows next before) (KnownStep rows next before)
  unfolding known_at
  known_found [] before = record { found = λ scope place rest o s w to are opens e. absurd (let wrong : Err (faults.NotSpelled o.start.place Extra) ≡ done {A = List (Option Value) × Spot} (w, to) = e in cc) }
  known_found (f ∷ fs) before = record {
    found = λ scope place rest o s w to are opens e.
        elim (chosen_ok (is_of f o.class o.number) _ _ (w, to) e) [
          | inl t ↦
              let i = is_field f o t.0 in
              let b = bind_ok (held_by rows (tag_of f) f.holds scope o s) (λ v. Ok (before ++ Some v.0 ∷ [], v.1)) (w, to) t.1 in
              let same = ok_is {A = List (Option Value) × Spot} (before ++ Some b.0.0 ∷ [], b.0.1) (w, to) b.2 in
              let r = (held_found (tag_of f) f.holds).found scope place rest o s b.0.0 b.0.1 are opens b.1 in
              let tag = text_tag scope place rest o s r.text b.0.1.rest opens r.taken.parts (held_some (tag_of f) f.holds scope.strict scope.levels b.0.0 r.text r.spelled) i.low in
              subst (λ (y : List (Option Value) × Spot). ReadAs (KnownStep rows (f ∷ fs) before) scope place rest y.0 y.1) same (record {
                text = r.text;
                taken = r.taken;
                spelled = record {
                  absent = 0;
                  field = f;
                  value = b.0.0;
                  lies = refl;
                  may = refl;
                  has_tag = subst (λ (x : Class × ℕ). HasTag x.0 x.1 r.text) (λ k. (i.class k, i.number k)) tag;
                  holds = r.spelled;
                  is_after = refl;
                };
                is_in = r.is_in;
              })
          | inr t ↦
              elim (chosen_ok f.optional _ _ (w, to) t.1) [
                | inl u ↦
                    let r = (known_found fs (before ++ None ∷ [])).found scope place rest o s w to are opens u.1 in
                    record { text = r.text; taken = r.taken; spelled = one_absent f fs before scope.strict scope.levels w r.text u.0 r.spelled; is_in = r.is_in }
                | inr u ↦ absurd (let wrong : Err (faults.NotSpelled o.start.place Missing) ≡ done {A = List (Option Value) × Spot} (w, to) = u.1 in cc)
              ]
        ];
  }

  -- what is passed over has a tag below 31
  over_low : (p : over.Passed) (class : Class) (number : ℕ) → is_over p class number ≡ true → number < 31
  over_low p class number e = ltb-true number 31 (and_parts (same_class class Context && nat_le p.low number && nat_le number p.high) (nat_lt number 31) e).1

  passes_low : (ps : List over.Passed) (settled : ℕ) (class : Class) (number after : ℕ) → passes ps settled class number ≡ Some after → number < 31
  passes_low [] settled class number after e = absurd cc
  passes_low (p ∷ ps) settled class number after e = by_test (is_over p class number) refl (λ k. passes_low ps settled class number after k)
    where
      by_test : (b : Bool) → is_over p class number ≡ b → (passes ps settled class number ≡ Some after → number < 31) → number < 31
      by_test true t ih = over_low p class number t
      by_test false t ih = ih (let f : Bool → Option ℕ = λ b. or_else (if b then settled_behind p.before settled else None) (passes ps settled class number) in sym (ap f t) ∙ e)

module _ (rows : List TypeRow) (fields : List known.Field) (passed : List over.Passed) where
  pub field_found : (before : List (Option Value)) → Found (field_at rows fields passed before) (FieldStep rows fields passed before)
  unfolding field_at
  field_found before = record {
    found = λ scope place rest o s w to are opens e. by_pass scope place rest o s w to are opens (passes passed (length before) o.class o.number) refl e;
  }
    where
      by_pass : (scope : Scope) (place : ℕ) (rest : List ℕ) (o : Opened) (s : Spot) (w : List (Option Value)) (to : Spot) → AreOctets rest → identifier_at scope place rest ≡ Ok (o, s) → (settled : Option ℕ) → passes passed (length before) o.class o.number ≡ settled
          → field_by rows fields before settled scope o s ≡ Ok (w, to) → ReadAs (FieldStep rows fields passed before) scope place rest w to
      by_pass scope place rest o s w to are opens None allowed e =
          let r = (known_found rows (drop (length before) fields) before).found scope place rest o s w to are opens e in
          record { text = r.text; taken = r.taken; spelled = inl r.spelled; is_in = r.is_in }
      by_pass scope place rest o s w to are opens (Some settled) allowed e =
          let b = bind_ok (whole_at 32 tt scope o s) (λ u. Ok (before ++ nones (settled - length before), u.1)) (w, to) e in
          let same = ok_is {A = List (Option Value) × Spot} (before ++ nones (settled - length before), b.0.1) (w, to) b.2 in
          let r = (whole_found 32 tt).found scope place rest o s b.0.0 b.0.1 are opens b.1 in
          let low = passes_low rows passed (length before) o.class o.number settled allowed in
          let tag = text_tag scope place rest o s r.text b.0.1.rest opens r.taken.parts (whole_some 32 r.text r.spelled.1) low in
          subst (λ (y : List (Option Value) × Spot). ReadAs (FieldStep rows fields passed before) scope place rest y.0 y.1) same (record {
            text = r.text;
            taken = r.taken;
            spelled = inr (record { class = o.class; number = o.number; settled = settled; has_tag = tag; allowed = allowed; level = r.spelled.0; whole = r.spelled.1; is_after = refl });
            is_in = r.is_in;
          })

  pub fields_found : (tag : tags.Tag) → Found (fielded_at rows fields passed tag) (λ strict levels v text. FieldedIs rows fields passed tag strict levels v text)
  fields_found tag = constructed_found (fields_at rows fields passed) tag (λ strict levels v c. FieldsAre rows fields passed strict levels v c) (all_found (field_at rows fields passed) (fields_done fields) (FieldStep rows fields passed) [] field_found)
