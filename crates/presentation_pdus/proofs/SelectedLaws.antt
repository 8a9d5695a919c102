-- A SET of two values: what is read is spelled so, what is spelled so is read, and it stays so, inside the octets.
use Rattle.std.proofs.Common.{◌≡◌, ℕ, ◌+◌, Bool, true, false, List, length, Option, Some, None, Ok, Err, refl, sym, ap, ◌∙◌, subst, inl, inr}
use Rattle.osi_base.specs.declared.layer_words.Kind.TheVariants.{Extra}
use Rattle.asn1_types.specs.declared.row.Class.{Class}
use Rattle.asn1_types.specs.declared.row.Class.TheVariants.{Context}
use Rattle.asn1_types.specs.Value.{Value}
use Rattle.ber_spelling.specs.declared.fault.ReadFault.TheVariants as faults
use Rattle.ber_spelling.specs.declared.spot.Scope.{Scope}
use Rattle.ber_spelling.specs.Reading.{Spot, Opened}
use Rattle.ber_spelling.proofs.Identifiers.{IsIn, bind_ok, chosen_ok, ok_is, done}
use Rattle.ber_spelling.proofs.Steady.{ReadAs, Found, ReadBack, Only, OfTag}
use Rattle.ber_spelling.proofs.Growing.{grown, grown_opened, Grows-bind, Grows-cond, with_spot}
use Rattle.ber_spelling.proofs.Constructed.{constructed_found, constructed_only}
use Rattle.ber_spelling.proofs.Items.{GrowsRun, constructed_grows, all_found, all_only, all_grow}
use Rattle.ber_spelling.proofs.Inside.{Inside-bind, Inside-cond, second}
use Rattle.ber_spelling.proofs.InsideRules.{InsideRun, all_inside}
use Rattle.passed_fields.proofs.FieldsInside.{constructed_inside}
use Rattle.presentation_pdus.specs.Fields.{context_tag, set_tag}
use Rattle.presentation_pdus.specs.Selected.{Run, Relation, Halves, again_kind, once_at, has_context, half_at, halves_done, no_half, halves_at, selected_at, HalfStep, HalvesAre, SelectedIs}

abbrev Whatever : Class → ℕ → Type 0
Whatever class number = Unit {0}

module _ (mode fields : Run) (M F : Relation) where
  -- ---- what is read is spelled so

  once_found : (run : Run) (P : Relation) → Found run P → (before : Halves) (old : Option Value) (put : Value → Halves) → ((strict : Bool) (levels : ℕ) (v : Value) (octets : List ℕ) → old ≡ None → P strict levels v octets → HalfStep M F before strict levels (put v) octets)
      → Found (once_at old run put) (HalfStep M F before)
  once_found run P h before None put is = record {
    found = λ scope place rest o s w to are opens e.
        let b = bind_ok (run scope o s) (λ v. Ok (put v.0, v.1)) (w, to) e in
        let same = ok_is {A = Halves × Spot} (put b.0.0, b.0.1) (w, to) b.2 in
        let r = h.found scope place rest o s b.0.0 b.0.1 are opens b.1 in
        subst (λ (y : Halves × Spot). ReadAs (HalfStep M F before) scope place rest y.0 y.1) same (record { text = r.text; taken = r.taken; spelled = is scope.strict scope.levels b.0.0 r.text refl r.spelled; is_in = r.is_in });
  }
  once_found run P h before (Some x) put is = record {
    found = λ scope place rest o s w to are opens e. absurd (let wrong : Err (faults.NotSpelled o.start.place (again_kind o.constructed)) ≡ done {A = Halves × Spot} (w, to) = e in cc);
  }

  half_found : Found mode M → Found fields F → (before : Halves) → Found (half_at mode fields before) (HalfStep M F before)
  unfolding half_at
  half_found m f before = record {
    found = λ scope place rest o s w to are opens e.
        elim (chosen_ok (has_context o 0) _ _ (w, to) e) [
          | inl t ↦ (once_found mode M m before before.0 (λ v. (Some v, before.1)) (λ x l v c n p. inl (v, n, refl, p))).found scope place rest o s w to are opens t.1
          | inr t ↦ elim (chosen_ok (has_context o 2) _ _ (w, to) t.1) [
            | inl u ↦ (once_found fields F f before before.1 (λ v. (before.0, Some v)) (λ x l v c n p. inr (v, n, refl, p))).found scope place rest o s w to are opens u.1
            | inr u ↦ absurd (let wrong : Err (faults.NotSpelled o.start.place Extra) ≡ done {A = Halves × Spot} (w, to) = u.1 in cc)
          ]
        ];
  }

  pub selected_found : Found mode M → Found fields F → Found (selected_at mode fields) (λ strict levels v octets. SelectedIs M F strict levels v octets)
  selected_found m f = constructed_found (halves_at mode fields) set_tag (λ strict levels v c. HalvesAre M F strict levels v c) (all_found (half_at mode fields) halves_done (HalfStep M F) no_half (half_found m f))

  -- ---- what is spelled so is read

  once_none : (run : Run) (put : Value → Halves) (v : Value) (o : Opened) (scope : Scope) (s to : Spot) → run scope o s ≡ Ok (v, to) → once_at None run put scope o s ≡ Ok (put v, to)
  once_none run put v o scope s to e = rw e refl

  picks_mode : (before : Halves) (o : Opened) (scope : Scope) (s : Spot) → has_context o 0 ≡ true → half_at mode fields before scope o s ≡ once_at before.0 mode (λ v. (Some v, before.1)) scope o s
  unfolding half_at
  picks_mode before o scope s h = rw h refl

  picks_fields : (before : Halves) (o : Opened) (scope : Scope) (s : Spot) → has_context o 0 ≡ false → has_context o 2 ≡ true → half_at mode fields before scope o s ≡ once_at before.1 fields (λ v. (before.0, Some v)) scope o s
  unfolding half_at
  picks_fields before o scope s n h = rw (n, h) refl

  of_mode : (o : Opened) → (o.class ≡ Context) × (o.number ≡ 0) → has_context o 0 ≡ true
  of_mode o t = rw (t.0, t.1) refl

  not_mode : (o : Opened) → (o.class ≡ Context) × (o.number ≡ 2) → has_context o 0 ≡ false
  not_mode o t = rw (t.0, t.1) refl

  of_fields : (o : Opened) → (o.class ≡ Context) × (o.number ≡ 2) → has_context o 2 ≡ true
  of_fields o t = rw (t.0, t.1) refl

  first_half : (before : Halves) (v : Value) (o : Opened) (scope : Scope) (s to : Spot) → before.0 ≡ None → (o.class ≡ Context) × (o.number ≡ 0) → mode scope o s ≡ Ok (v, to) → half_at mode fields before scope o s ≡ Ok ((Some v, before.1), to)
  first_half before v o scope s to none t e =
      picks_mode before o scope s (of_mode o t) ∙ ap (λ (x : Option Value). once_at x mode (λ w. (Some w, before.1)) scope o s) none ∙ once_none mode (λ w. (Some w, before.1)) v o scope s to e

  second_half : (before : Halves) (v : Value) (o : Opened) (scope : Scope) (s to : Spot) → before.1 ≡ None → (o.class ≡ Context) × (o.number ≡ 2) → fields scope o s ≡ Ok (v, to) → half_at mode fields before scope o s ≡ Ok ((before.0, Some v), to)
  second_half before v o scope s to none t e =
      picks_fields before o scope s (not_mode o t) (of_fields o t) ∙ ap (λ (x : Option Value). once_at x fields (λ w. (before.0, Some w)) scope o s) none ∙ once_none fields (λ w. (before.0, Some w)) v o scope s to e

  half_back : Only (OfTag (context_tag 0)) mode M → Only (OfTag (context_tag 2)) fields F → (before : Halves) (scope : Scope) (place : ℕ) (w : Halves) (text rest : List ℕ) → HalfStep M F before scope.strict scope.levels w text → IsIn scope (place + length text)
      → ReadBack Whatever (half_at mode fields before) scope place text rest w
  half_back m f before scope place w text rest (inl p) here =
      let r = m.only scope place p.0 text rest p.3 here in
      record {
        opened = r.opened;
        spot = r.spot;
        first = r.first;
        others = r.others;
        begins = r.begins;
        some = r.some;
        opens = r.opens;
        allowed = tt;
        reads = first_half before p.0 r.opened scope r.spot _ p.1 r.allowed r.reads ∙ ap (λ (y : Halves). Ok (y, record { place = place + length text; rest = rest })) (sym p.2);
      }
  half_back m f before scope place w text rest (inr p) here =
      let r = f.only scope place p.0 text rest p.3 here in
      record {
        opened = r.opened;
        spot = r.spot;
        first = r.first;
        others = r.others;
        begins = r.begins;
        some = r.some;
        opens = r.opens;
        allowed = tt;
        reads = second_half before p.0 r.opened scope r.spot _ p.1 r.allowed r.reads ∙ ap (λ (y : Halves). Ok (y, record { place = place + length text; rest = rest })) (sym p.2);
      }

  pub selected_only : Only (OfTag (context_tag 0)) mode M → Only (OfTag (context_tag 2)) fields F → Only (OfTag set_tag) (selected_at mode fields) (λ strict levels v octets. SelectedIs M F strict levels v octets)
  selected_only m f =
      constructed_only (halves_at mode fields) set_tag (λ strict levels v c. HalvesAre M F strict levels v c) refl
      (all_only Whatever (half_at mode fields) halves_done (HalfStep M F) no_half (λ before. record { only = λ scope place w text rest p here. half_back m f before scope place w text rest p here }))

-- ---- it stays so, inside the octets

once_grows : (run : Run) → GrowsRun run → (old : Option Value) (put : Value → Halves) → GrowsRun (once_at old run put)
once_grows run h None put = record {
  grows = λ scope o s more. Grows-bind (with_spot more) (with_spot more) (run scope o s) (run scope (grown_opened more o) (grown more s)) _ _ (h.grows scope o s more) (λ v e. refl);
}
once_grows run h (Some x) put = record { grows = λ scope o s more. refl }

once_inside : (run : Run) → InsideRun run → (old : Option Value) (put : Value → Halves) → InsideRun (once_at old run put)
once_inside run h None put = record { each = λ end scope o s le e. Inside-bind (second end) (second end) end (run scope o s) _ (h.each end scope o s le e) (λ v k. k) }
once_inside run h (Some x) put = record { each = λ end scope o s le e. le }

module _ (mode fields : Run) where
  half_grows : GrowsRun mode → GrowsRun fields → (before : Halves) → GrowsRun (half_at mode fields before)
  unfolding half_at
  half_grows m f before = record {
    grows = λ scope o s more.
        Grows-cond (with_spot more) (has_context o 0) _ _ _ _ (λ t. (once_grows mode m before.0 (λ v. (Some v, before.1))).grows scope o s more) (λ t.
        Grows-cond (with_spot more) (has_context o 2) _ _ _ _ (λ u. (once_grows fields f before.1 (λ v. (before.0, Some v))).grows scope o s more) (λ u. refl));
  }

  pub selected_grows : GrowsRun mode → GrowsRun fields → GrowsRun (selected_at mode fields)
  selected_grows m f = constructed_grows (halves_at mode fields) set_tag (all_grow (half_at mode fields) halves_done (half_grows m f) no_half)

  half_inside : InsideRun mode → InsideRun fields → (before : Halves) → InsideRun (half_at mode fields before)
  unfolding half_at
  half_inside m f before = record {
    each = λ end scope o s le e.
        Inside-cond (second end) end (has_context o 0) _ _ (λ t. (once_inside mode m before.0 (λ v. (Some v, before.1))).each end scope o s le e) (λ t.
        Inside-cond (second end) end (has_context o 2) _ _ (λ u. (once_inside fields f before.1 (λ v. (before.0, Some v))).each end scope o s le e) (λ u. le));
  }

  pub selected_inside : InsideRun mode → InsideRun fields → InsideRun (selected_at mode fields)
  selected_inside m f = constructed_inside (halves_at mode fields) set_tag (all_inside (half_at mode fields) halves_done (half_inside m f) no_half)
