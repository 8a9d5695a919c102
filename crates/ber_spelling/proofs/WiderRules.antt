-- Under a larger limit values are read as they were, unless they were too long.
use Rattle.std.proofs.Common.{◌≡◌, ℕ, zero, suc, Bool, true, false, ◌&&◌, List, [], ◌∷◌, length, take, ◌-◌, Option, Some, None, Ok, Err, refl, sym, ap, ◌∙◌, inl, inr, subst, ◌≤◌, arith}
use Rattle.std.specs.Prelude.{slice_get, nat_lt}
use Rattle.osi_base.specs.declared.layer_words.Kind.{Kind}
use Rattle.osi_base.specs.declared.layer_words.Kind.TheVariants.{Tag, Missing, Extra, Length, Content, Form}
use Rattle.asn1_types.specs.declared.row.Class.{Class}
use Rattle.asn1_types.specs.declared.row.Class.TheVariants.{Universal}
use Rattle.asn1_types.specs.declared.row.Part.{Part}
use Rattle.asn1_types.specs.declared.row.TypeRow.{TypeRow}
use Rattle.asn1_types.specs.declared.row.TypeRow.TheVariants as row
use Rattle.asn1_types.specs.Defaults.{may_be_absent}
use Rattle.asn1_types.specs.Rows.{of_row, along, begins, text_number, is_no_tag}
use Rattle.asn1_types.specs.Value.{Value}
use Rattle.asn1_types.specs.ValueView.{parts_of}
use Rattle.asn1_types.specs.Whole.{is_marked}
use Rattle.ber_spelling.specs.declared.fault.ReadFault.TheVariants as faults
use Rattle.ber_spelling.specs.declared.spot.Scope.{Scope}
use Rattle.asn1_types.specs.declared.row.Tag as tags
use Rattle.asn1_types.specs.Tags.{rank, tag_or}
use Rattle.asn1_types.specs.Writing.{written}
use Rattle.asn1_types.specs.Rising.{behind_last}
use Rattle.ber_spelling.specs.declared.spot.StringKind.{StringKind}
use Rattle.ber_spelling.specs.declared.spot.StringKind.TheVariants.{OfOctets, OfBits}
use Rattle.ber_spelling.specs.declared.spot.Gathered.{Gathered}
use Rattle.ber_spelling.specs.Order.{Filled}
use Rattle.ber_spelling.specs.Reading.{Spot, Opened, Ahead, ended, begun, Reading, ◌>>=◌, refuse}
use Rattle.ber_spelling.specs.Fields.{extent_at, contents_at, look_at}
use Rattle.ber_spelling.specs.Rules.{Reader, expect_at, some_or_refuse, form_at, primitive_at, always, boolean_rule, is_strict_boolean, integer_rule, enumerated_rule, null_rule, object_id_rule, constructed_at, finish, item_at, items_at, all_items_at, segment_tag, nothing, segment_rule, segment_at, segmented_at, string_rule, string_at, whole_octets, whole_text, whole_bits, has_zero_bits, list_item_at, list_done, list_at, value_ahead, end_ahead, open_at, close_at, explicit_at, is_part, present_at, part_at, parts_at, sequence_at, nothing_filled, set_done, alone, cut_behind, late_kind, late_at, ordered_at, is_free, fill_at, slot_at, choice_at, anew, whole_at, any_at, dead, or_explicit, read_by, Guise, bare, plain, under, is_other, set_item_at, set_of_done, set_of_at}
use Rattle.ber_spelling.proofs.Steady.{Run, RunOf}
use Rattle.ber_spelling.proofs.Constructed.{BodyOf}
use Rattle.ber_spelling.proofs.Identifiers.{bind_ok, ok_is}
use Rattle.ber_spelling.proofs.Strict.{NoTag}
use Rattle.ber_spelling.proofs.StrictRules.{TagAlone, along_strict}
use Rattle.ber_spelling.proofs.Wider.{wide, Wider, same, Wider-bind, Wider-same, Wider-cond, Wider-refl, wide_extent, extent_wide, extent_keeps, contents_wide, look_wide}

abbrev some_gathered : Gathered → Option Gathered
some_gathered g = Some g

-- behind the length of a string in segments
abbrev segments_then : StringKind → (Gathered → Option Value) → ℕ → Scope × Spot → Reading (Value × Spot)
segments_then kind whole place x = all_items_at (segment_at kind 32) some_gathered nothing x.0 x.1 >>= λ g. some_or_refuse place (λ (v : Value). v) (whole g.0) >>= λ v. Ok (v, g.1)

-- the octets that one whole value took
abbrev any_of : List ℕ → Unit {0} × Spot → Reading (Value × Spot)
any_of rest w = Ok (Rattle.asn1_types.specs.Value.any (take (length rest - length w.1.rest) rest), w.1)

late_free : (kind : Kind) (r : Reading (Value × Spot)) → NoTag r → late_kind kind r ≡ kind
late_free kind (Ok x) h = absurd h
late_free kind (Err (faults.NotSpelled place Tag)) h = absurd (h refl)
late_free kind (Err (faults.NotSpelled place Missing)) h = refl
late_free kind (Err (faults.NotSpelled place Extra)) h = refl
late_free kind (Err (faults.NotSpelled place Length)) h = refl
late_free kind (Err (faults.NotSpelled place Content)) h = refl
late_free kind (Err (faults.NotSpelled place Form)) h = refl
late_free kind (Err faults.Short) h = refl
late_free kind (Err (faults.TooDeep place)) h = refl
late_free kind (Err (faults.TooLong place)) h = refl
late_free kind (Err faults.NoMemory) h = refl

pub record WideRun (m : ℕ) {A : Type 0} (run : RunOf A) : Type 0 where
  pub each : (scope : Scope) (o : Opened) (s : Spot) → scope.limit ≤ m → Wider same (run scope o s) (run (wide m scope) o s)

record WideBody (m : ℕ) {A : Type 0} (body : BodyOf A) : Type 0 where
  each : (scope : Scope) (s : Spot) → scope.limit ≤ m → Wider same (body scope s) (body (wide m scope) s)

-- a scope inside has the same limit
kept : (m : ℕ) (scope : Scope) (place : ℕ) (rest : List ℕ) (x : Scope × Spot) → scope.limit ≤ m → extent_at scope place rest ≡ Ok x → x.0.limit ≤ m
kept m scope place rest x le e = let k = extent_keeps scope place rest x e in omega arith

module _ (m : ℕ) where
  -- ---- primitive and constructed values

  prim_wide : {A : Type 0} (rule : List ℕ → Option A) (canonical : List ℕ → Bool) (tag : tags.Tag) → WideRun m (primitive_at rule canonical tag)
  unfolding primitive_at
  prim_wide {A} rule canonical tag = record {
    each = λ scope o s le.
        Wider-same same (expect_at tag false o) _ _ (λ u.
        Wider-bind same same (contents_at scope s.place s.rest) (contents_at (wide m scope) s.place s.rest) _ _ (contents_wide m scope s.place s.rest le) (λ c e.
        Wider-same same (some_or_refuse c.0 (λ (x : A). x) (rule c.1)) _ _ (λ found.
        Wider-same same (form_at scope c.0 (canonical c.1)) _ _ (λ v. refl))));
  }

  constructed_wide : {A : Type 0} (body : BodyOf A) (tag : tags.Tag) → WideBody m body → WideRun m (constructed_at body tag)
  constructed_wide body tag h = record {
    each = λ scope o s le.
        Wider-same same (expect_at tag true o) _ _ (λ u.
        Wider-bind (wide_extent m) same (extent_at scope s.place s.rest) (extent_at (wide m scope) s.place s.rest) _ _ (extent_wide m scope s.place s.rest le) (λ x e.
        h.each x.0 x.1 (kept m scope s.place s.rest x le e)));
  }

  module _ {S T : Type 0} (step : S → Scope → Opened → Spot → Reading (S × Spot)) (done : S → Option T) (h : (a : S) → WideRun m (step a)) where
    item_wide : (turns : ℕ) (first : S) (scope : Scope) → scope.limit ≤ m → ((next : S) (s : Spot) → Wider same (items_at step done turns next scope s) (items_at step done turns next (wide m scope) s)) → (a : Ahead)
        → Wider same (item_at step done (λ next after. items_at step done turns next scope after) first scope a) (item_at step done (λ next after. items_at step done turns next (wide m scope) after) first (wide m scope) a)
    item_wide turns first scope le ih (ended place after) = Wider-same same (finish place (done first)) _ _ (λ x. refl)
    item_wide turns first scope le ih (begun o t) = Wider-bind same same (step first scope o t) (step first (wide m scope) o t) _ _ ((h first).each scope o t le) (λ x e. ih x.0 x.1)

    items_wide : (turns : ℕ) (first : S) (scope : Scope) (s : Spot) → scope.limit ≤ m → Wider same (items_at step done turns first scope s) (items_at step done turns first (wide m scope) s)
    unfolding items_at
    items_wide zero first scope s le = refl
    items_wide (suc turns) first scope s le =
        Wider-bind same same (look_at scope s.place s.rest) (look_at (wide m scope) s.place s.rest) _ _ (look_wide m scope s.place s.rest le) (λ a e.
        item_wide turns first scope le (λ next t. items_wide turns next scope t le) a)

    all_wide : (first : S) → WideBody m (all_items_at step done first)
    all_wide first = record { each = λ scope s le. items_wide (suc (length s.rest)) first scope s le }

  -- ---- strings and lists

  segment_wide : (kind : StringKind) (depth : ℕ) (before : Gathered) → WideRun m (segment_at kind depth before)
  unfolding segment_at
  segment_wide kind zero before = record { each = λ scope o s le. refl }
  segment_wide kind (suc depth) before = record {
    each = λ scope o s le.
        Wider-cond same o.constructed _ _ _ _
        (λ t. (constructed_wide (all_items_at (segment_at kind depth) some_gathered before) (segment_tag kind) (all_wide (segment_at kind depth) some_gathered (λ a. segment_wide kind depth a) before)).each scope o s le)
        (λ t. (prim_wide (segment_rule kind before) always (segment_tag kind)).each scope o s le);
  }

  segmented_wide : (kind : StringKind) (whole : Gathered → Option Value) (tag : tags.Tag) → WideRun m (segmented_at kind whole tag)
  unfolding segmented_at
  segmented_wide kind whole tag = record {
    each = λ scope o s le.
        Wider-same same (expect_at tag true o) _ _ (λ u.
        Wider-same same (form_at scope o.start.place false) _ _ (λ u.
        Wider-bind (wide_extent m) same (extent_at scope s.place s.rest) (extent_at (wide m scope) s.place s.rest) (segments_then kind whole o.start.place) (segments_then kind whole o.start.place) (extent_wide m scope s.place s.rest le) (λ x e.
        Wider-bind same same (all_items_at (segment_at kind 32) some_gathered nothing x.0 x.1) (all_items_at (segment_at kind 32) some_gathered nothing (wide m x.0) x.1) _ _
        ((all_wide (segment_at kind 32) some_gathered (λ a. segment_wide kind 32 a) nothing).each x.0 x.1 (kept m scope s.place s.rest x le e)) (λ g f.
        Wider-same same (some_or_refuse o.start.place (λ (v : Value). v) (whole g.0)) _ _ (λ v. refl)))));
  }

  string_wide : (kind : StringKind) (whole : Gathered → Option Value) (canonical : List ℕ → Bool) (tag : tags.Tag) → WideRun m (string_at kind whole canonical tag)
  unfolding string_at
  string_wide kind whole canonical tag = record {
    each = λ scope o s le.
        Wider-cond same o.constructed _ _ _ _ (λ t. (segmented_wide kind whole tag).each scope o s le) (λ t. (prim_wide (string_rule kind whole) canonical tag).each scope o s le);
  }

  list_step_wide : (inner : Reader) → WideRun m (inner plain) → (before : List Value) → WideRun m (list_item_at inner before)
  list_step_wide inner h before = record { each = λ scope o s le. Wider-bind same same (inner plain scope o s) (inner plain (wide m scope) o s) _ _ (h.each scope o s le) (λ v e. refl) }

  list_wide : (inner : Reader) (tag : tags.Tag) → WideRun m (inner plain) → WideRun m (list_at inner tag)
  list_wide inner tag h = constructed_wide (all_items_at (list_item_at inner) list_done []) tag (all_wide (list_item_at inner) list_done (λ a. list_step_wide inner h a) [])

  set_step_wide : (spell : Value → List ℕ) (inner : Reader) → WideRun m (inner plain) → (before : List Value) → WideRun m (set_item_at spell inner before)
  set_step_wide spell inner h before = record {
    each = λ scope o s le.
        Wider-bind same same (inner plain scope o s) (inner plain (wide m scope) o s) _ _ (h.each scope o s le) (λ v e.
        Wider-same same (form_at scope o.start.place (behind_last spell before v.0)) _ _ (λ u. refl));
  }

  set_of_wide : (spell : Value → List ℕ) (inner : Reader) (tag : tags.Tag) → WideRun m (inner plain) → WideRun m (set_of_at spell inner tag)
  set_of_wide spell inner tag h = constructed_wide (all_items_at (set_item_at spell inner) (set_of_done spell) []) tag (all_wide (set_item_at spell inner) (set_of_done spell) (λ a. set_step_wide spell inner h a) [])

  -- ---- explicit tags

  abbrev wide_open : Scope × Opened × Spot → Scope × Opened × Spot
  wide_open x = (wide m x.0, x.1, x.2)

  open_wide : (tag : tags.Tag) (scope : Scope) (o : Opened) (s : Spot) → scope.limit ≤ m → Wider wide_open (open_at tag scope o s) (open_at tag (wide m scope) o s)
  unfolding open_at
  open_wide tag scope o s le =
      Wider-same wide_open (expect_at tag true o) _ _ (λ u.
      Wider-bind (wide_extent m) wide_open (extent_at scope s.place s.rest) (extent_at (wide m scope) s.place s.rest) _ _ (extent_wide m scope s.place s.rest le) (λ x e.
      Wider-bind same wide_open (look_at x.0 x.1.place x.1.rest) (look_at (wide m x.0) x.1.place x.1.rest) _ _ (look_wide m x.0 x.1.place x.1.rest (kept m scope s.place s.rest x le e)) (λ a d.
      Wider-same wide_open (value_ahead a) _ _ (λ f. refl))))

  open_keeps : (tag : tags.Tag) (scope : Scope) (o : Opened) (s : Spot) (y : Scope × Opened × Spot) → scope.limit ≤ m → open_at tag scope o s ≡ Ok y → y.0.limit ≤ m
  unfolding open_at
  open_keeps tag scope o s y le e =
      let a = bind_ok (expect_at tag true o) _ y e in
      let b = bind_ok (extent_at scope s.place s.rest) _ y a.2 in
      let x : Scope × Spot = b.0 in
      let c = bind_ok (look_at x.0 x.1.place x.1.rest) _ y b.2 in
      let d = bind_ok (value_ahead c.0) (λ f. Ok (x.0, f.0, f.1)) y c.2 in
      let t = ok_is {A = Scope × Opened × Spot} (x.0, d.0.0, d.0.1) y d.2 in
      subst (λ (z : Scope × Opened × Spot). z.0.limit ≤ m) t (kept m scope s.place s.rest x le b.1)

  close_wide : (scope : Scope) (s : Spot) → scope.limit ≤ m → Wider same (close_at scope s) (close_at (wide m scope) s)
  unfolding close_at
  close_wide scope s le = Wider-bind same same (look_at scope s.place s.rest) (look_at (wide m scope) s.place s.rest) end_ahead end_ahead (look_wide m scope s.place s.rest le) (λ a e. Wider-refl (end_ahead a))

  explicit_wide : (run : Run) (tag : tags.Tag) → WideRun m run → WideRun m (explicit_at run tag)
  unfolding explicit_at
  explicit_wide run tag h = record {
    each = λ scope o s le.
        Wider-bind wide_open same (open_at tag scope o s) (open_at tag (wide m scope) o s) _ _ (open_wide tag scope o s le) (λ x e.
        Wider-bind same same (run x.0 x.1 x.2) (run (wide m x.0) x.1 x.2) _ _ (h.each x.0 x.1 x.2 (open_keeps tag scope o s x le e)) (λ v f.
        Wider-bind same same (close_at x.0 v.1) (close_at (wide m x.0) v.1) _ _ (close_wide x.0 v.1 (open_keeps tag scope o s x le e)) (λ t g. refl)));
  }

  or_wide : (run : Run) (t : Option tags.Tag) → WideRun m run → WideRun m (or_explicit run t)
  or_wide run None h = h
  or_wide run (Some t) h = explicit_wide run t h

  -- ---- a part that may not stand where it does

  alone_same : (kind : Kind) (run : Run) → TagAlone run → (scope : Scope) (o : Opened) (s : Spot) → late_kind kind (run (wide m scope) (alone o s) (cut_behind s)) ≡ late_kind kind (run scope (alone o s) (cut_behind s))
  alone_same kind run h scope o s =
      elim (h.each scope (alone o s) (cut_behind s)) [
        | inl free ↦ elim (h.each (wide m scope) (alone o s) (cut_behind s)) [
          | inl too ↦ late_free kind (run (wide m scope) (alone o s) (cut_behind s)) too ∙ sym (late_free kind (run scope (alone o s) (cut_behind s)) free)
          | inr is ↦ absurd (subst (λ (r : Reading (Value × Spot)). NoTag r) (is scope) free refl)
        ]
        | inr is ↦ ap (late_kind kind) (is (wide m scope) ∙ sym (is scope))
      ]

  late_wide : {A : Type 0} (kind : Kind) (run : Run) → TagAlone run → (scope : Scope) (o : Opened) (s : Spot) → Wider {A = A} same (late_at kind run scope o s) (late_at kind run (wide m scope) o s)
  late_wide kind run h scope o s = ap (refuse o.start.place) (alone_same kind run h scope o s)

  -- ---- SEQUENCE, SET and CHOICE

  module _ (begins : ℕ → Class → ℕ → Bool) (inner : ℕ → Reader) (h : (n : ℕ) (t : Guise) → WideRun m (inner n t)) where
    present_wide : (p : Part) (scope : Scope) (a : Ahead) → scope.limit ≤ m → Wider same (present_at (inner p.inner.0) p scope a) (present_at (inner p.inner.0) p (wide m scope) a)
    present_wide p scope (ended place after) le = refl
    present_wide p scope (begun o s) le =
        Wider-bind same same (inner p.inner.0 (bare p.default) scope o s) (inner p.inner.0 (bare p.default) (wide m scope) o s) _ _ ((h p.inner.0 (bare p.default)).each scope o s le) (λ v e.
        Wider-bind same same (look_at scope v.1.place v.1.rest) (look_at (wide m scope) v.1.place v.1.rest) _ _ (look_wide m scope v.1.place v.1.rest le) (λ a f. refl))

    part_wide : (p : Part) (scope : Scope) (a : Ahead) → scope.limit ≤ m → Wider same (part_at begins (inner p.inner.0) p scope a) (part_at begins (inner p.inner.0) p (wide m scope) a)
    unfolding part_at
    part_wide p scope a le =
        Wider-cond same (is_part begins p a) _ _ _ _ (λ t. present_wide p scope a le) (λ t. Wider-cond same (may_be_absent p) _ _ _ _ (λ t. refl) (λ t. refl))

    parts_wide : (ps : List Part) (scope : Scope) (a : Ahead) → scope.limit ≤ m → Wider same (parts_at begins inner scope a ps) (parts_at begins inner (wide m scope) a ps)
    unfolding parts_at
    parts_wide [] scope a le = Wider-same same (end_ahead a) _ _ (λ t. refl)
    parts_wide (p ∷ ps) scope a le =
        Wider-bind same same (part_at begins (inner p.inner.0) p scope a) (part_at begins (inner p.inner.0) p (wide m scope) a) _ _ (part_wide p scope a le) (λ x e.
        Wider-bind same same (parts_at begins inner scope x.1 ps) (parts_at begins inner (wide m scope) x.1 ps) _ _ (parts_wide ps scope x.1 le) (λ y f. refl))

    abbrev sequence_then : List Part → Scope × Spot → Reading (Value × Spot)
    sequence_then ps x = look_at x.0 x.1.place x.1.rest >>= λ a. parts_at begins inner x.0 a ps >>= λ found. Ok (Rattle.asn1_types.specs.Value.parts (parts_of found.0), found.1)

    sequence_wide : (ps : List Part) (tag : tags.Tag) → WideRun m (sequence_at begins inner ps tag)
    unfolding sequence_at
    sequence_wide ps tag = record {
      each = λ scope o s le.
          Wider-same same (expect_at tag true o) _ _ (λ u.
          Wider-bind (wide_extent m) same (extent_at scope s.place s.rest) (extent_at (wide m scope) s.place s.rest) (sequence_then ps) (sequence_then ps) (extent_wide m scope s.place s.rest le) (λ x e.
          Wider-bind same same (look_at x.0 x.1.place x.1.rest) (look_at (wide m x.0) x.1.place x.1.rest) _ _ (look_wide m x.0 x.1.place x.1.rest (kept m scope s.place s.rest x le e)) (λ a d.
          Wider-bind same same (parts_at begins inner x.0 a ps) (parts_at begins inner (wide m x.0) a ps) _ _ (parts_wide ps x.0 a (kept m scope s.place s.rest x le e)) (λ y f. refl))));
    }

    choice_wide : (which : ℕ) (ps : List Part) → WideRun m (choice_at begins inner which ps)
    unfolding choice_at
    choice_wide which [] = record { each = λ scope o s le. refl }
    choice_wide which (p ∷ ps) = record {
      each = λ scope o s le.
          Wider-cond same (begins p.inner.0 o.class o.number) _ _ _ _
          (λ t. Wider-bind same same (inner p.inner.0 plain scope o s) (inner p.inner.0 plain (wide m scope) o s) _ _ ((h p.inner.0 plain).each scope o s le) (λ v e. refl))
          (λ t. (choice_wide (suc which) ps).each scope o s le);
    }

    module _ (l : (n : ℕ) (t : Guise) → TagAlone (inner n t)) where
      ordered_wide : (n : ℕ) (t : Guise) (least : ℕ) → WideRun m (ordered_at (inner n t) least)
      ordered_wide n t least = record {
        each = λ scope o s le. Wider-cond same (scope.strict && nat_lt (rank o.class o.number) least) _ _ _ _ (λ u. late_wide Form (inner n t) (l n t) scope o s) (λ u. (h n t).each scope o s le);
      }

      fill_wide : (n : ℕ) (t : Guise) (which : ℕ) (before : Filled) → WideRun m (fill_at (inner n t) which before)
      fill_wide n t which before = record {
        each = λ scope o s le.
            Wider-cond same (is_free (slice_get before.found which)) _ _ _ _
            (λ u. Wider-bind same same (ordered_at (inner n t) before.least scope o s) (ordered_at (inner n t) before.least (wide m scope) o s) _ _ ((ordered_wide n t before.least).each scope o s le) (λ v e. refl))
            (λ u. late_wide Extra (inner n t) (l n t) scope o s);
      }

      slot_wide : (which : ℕ) (ps : List Part) (before : Filled) → WideRun m (slot_at begins inner which ps before)
      unfolding slot_at
      slot_wide which [] before = record { each = λ scope o s le. refl }
      slot_wide which (p ∷ ps) before = record {
        each = λ scope o s le.
            Wider-cond same (begins p.inner.0 o.class o.number) _ _ _ _
            (λ t. (fill_wide p.inner.0 (bare p.default) which before).each scope o s le)
            (λ t. (slot_wide (suc which) ps before).each scope o s le);
      }

      set_wide : (ps : List Part) → WideBody m (all_items_at (slot_at begins inner 0 ps) (set_done ps) (nothing_filled ps))
      set_wide ps = all_wide (slot_at begins inner 0 ps) (set_done ps) (λ before. slot_wide 0 ps before) (nothing_filled ps)

  -- ---- one whole value of any type

  whole_wide : (depth : ℕ) (before : Unit {0}) → WideRun m (whole_at depth before)
  unfolding whole_at
  whole_wide zero before = record { each = λ scope o s le. refl }
  whole_wide (suc inner) before = record {
    each = λ scope o s le.
        Wider-cond same (is_no_tag o.class o.number) _ _ _ _ (λ t. refl) (λ t.
        Wider-cond same (is_marked s.rest && o.constructed) _ _ _ _
        (λ t. Wider-bind (wide_extent m) same (extent_at (anew (suc inner) scope) s.place s.rest) (extent_at (wide m (anew (suc inner) scope)) s.place s.rest) _ _ (extent_wide m (anew (suc inner) scope) s.place s.rest le) (λ x e.
        (all_wide (whole_at inner) (λ (u : Unit {0}). Some u) (λ a. whole_wide inner a) tt).each x.0 x.1 (kept m (anew (suc inner) scope) s.place s.rest x le e)))
        (λ t. Wider-bind same same (contents_at (anew (suc inner) scope) s.place s.rest) (contents_at (wide m (anew (suc inner) scope)) s.place s.rest) _ _ (contents_wide m (anew (suc inner) scope) s.place s.rest le) (λ c e. refl)));
  }

  any_wide : WideRun m any_at
  unfolding any_at
  any_wide = record {
    each = λ scope o s le. Wider-bind same same (whole_at 32 tt scope o s) (whole_at 32 tt (wide m scope) o s) (any_of o.start.rest) (any_of o.start.rest) ((whole_wide 32 tt).each scope o s le) (λ w e. refl);
  }

  -- ---- each row

  dead_wide : (t : Guise) → WideRun m (dead t)
  dead_wide t = record { each = λ scope o s le. refl }

  row_wide : (begins : ℕ → Class → ℕ → Bool) (spell : ℕ → Value → List ℕ) (inner : ℕ → Reader) → ((n : ℕ) (t : Guise) → WideRun m (inner n t)) → ((n : ℕ) (t : Guise) → TagAlone (inner n t)) → (r : TypeRow) (t : Guise) → WideRun m (read_by begins spell inner r t)
  row_wide begins spell inner h l row.Boolean t = prim_wide boolean_rule (λ c. is_strict_boolean c && is_other t.default (boolean_rule c)) (tag_or t.tag Universal 1)
  row_wide begins spell inner h l (row.Integer low high) t = prim_wide (integer_rule low high) (λ c. is_other t.default (integer_rule low high c)) (tag_or t.tag Universal 2)
  row_wide begins spell inner h l (row.Enumerated items) t = prim_wide (enumerated_rule items) (λ c. is_other t.default (enumerated_rule items c)) (tag_or t.tag Universal 10)
  row_wide begins spell inner h l row.Null t = prim_wide null_rule always (tag_or t.tag Universal 5)
  row_wide begins spell inner h l (row.OctetString most) t = string_wide OfOctets (whole_octets most) always (tag_or t.tag Universal 4)
  row_wide begins spell inner h l row.BitString t = string_wide OfBits whole_bits has_zero_bits (tag_or t.tag Universal 3)
  row_wide begins spell inner h l row.ObjectId t = prim_wide object_id_rule always (tag_or t.tag Universal 6)
  row_wide begins spell inner h l (row.Text kind) t = string_wide OfOctets (whole_text kind) always (tag_or t.tag Universal (text_number kind))
  row_wide begins spell inner h l (row.Sequence ps) t = sequence_wide begins inner h ps (tag_or t.tag Universal 16)
  row_wide begins spell inner h l (row.Set ps) t = constructed_wide (all_items_at (slot_at begins inner 0 ps) (set_done ps) (nothing_filled ps)) (tag_or t.tag Universal 17) (set_wide begins inner h l ps)
  row_wide begins spell inner h l (row.SequenceOf of) t = list_wide (inner of.0) (tag_or t.tag Universal 16) (h of.0 plain)
  row_wide begins spell inner h l (row.SetOf of) t = set_of_wide (spell of.0) (inner of.0) (tag_or t.tag Universal 17) (h of.0 plain)
  row_wide begins spell inner h l (row.Choice ps) t = or_wide (choice_at begins inner 0 ps) t.tag (choice_wide begins inner h 0 ps)
  row_wide begins spell inner h l (row.Tagged class number true of) t = explicit_wide (inner of.0 (bare t.default)) (tag_or t.tag class number) (h of.0 (bare t.default))
  row_wide begins spell inner h l (row.Tagged class number false of) t = h of.0 (under (Some (tag_or t.tag class number)) t.default)
  row_wide begins spell inner h l row.Any t = or_wide any_at t.tag any_wide

  of_wide : (begins : ℕ → Class → ℕ → Bool) (spell : ℕ → Value → List ℕ) (inner : ℕ → Reader) → ((n : ℕ) (t : Guise) → WideRun m (inner n t)) → ((n : ℕ) (t : Guise) → TagAlone (inner n t)) → (o : Option TypeRow) (t : Guise) → WideRun m (of_row dead (read_by begins spell inner) o t)
  of_wide begins spell inner h l None t = dead_wide t
  of_wide begins spell inner h l (Some r) t = row_wide begins spell inner h l r t

  pub along_wide : (rows : List TypeRow) (turns n : ℕ) (t : Guise) → WideRun m (along dead (read_by (begins rows) (written rows)) rows turns n t)
  along_wide rows zero n t = dead_wide t
  along_wide rows (suc turns) n t =
      of_wide (begins rows) (written rows) (along dead (read_by (begins rows) (written rows)) rows turns) (λ k u. along_wide rows turns k u) (λ k u. (along_strict rows turns k).tag_alone u) (slice_get rows n) t
