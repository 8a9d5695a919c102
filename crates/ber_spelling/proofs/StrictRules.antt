-- Reading values of rows strictly is reading them, or a fault of form.
use Rattle.std.proofs.Common.{◌≡◌, ◌⊎◌, ℕ, zero, suc, Bool, true, false, not, ◌&&◌, cond, List, [], ◌∷◌, length, take, ◌-◌, Option, Some, None, Ok, Err, refl, sym, ap, ◌∙◌, inl, inr, subst}
use Rattle.std.specs.Prelude.{slice_get, nat_lt}
use Rattle.osi_base.specs.declared.layer_words.Kind.{Kind}
use Rattle.osi_base.specs.declared.layer_words.Kind.TheVariants.{Tag, Missing, Extra, Length, Content, Form}
use Rattle.asn1_types.specs.declared.row.Class.{Class}
use Rattle.asn1_types.specs.declared.row.Class.TheVariants.{Universal}
use Rattle.asn1_types.specs.declared.row.Part.{Part}
use Rattle.asn1_types.specs.declared.row.TypeRow.{TypeRow}
use Rattle.asn1_types.specs.declared.row.TypeRow.TheVariants as row
use Rattle.asn1_types.specs.Defaults.{may_be_absent}
use Rattle.asn1_types.specs.Rows.{of_row, along, begins, text_number, is_no_tag}
use Rattle.asn1_types.specs.Value.{Value}
use Rattle.asn1_types.specs.ValueView.{parts_of}
use Rattle.asn1_types.specs.Whole.{is_marked}
use Rattle.asn1_types.specs.Rising.{behind_last}
use Rattle.ber_spelling.specs.declared.fault.ReadFault.TheVariants as faults
use Rattle.ber_spelling.specs.declared.spot.Scope.{Scope}
use Rattle.asn1_types.specs.declared.row.Tag as tags
use Rattle.asn1_types.specs.Tags.{rank, tag_or}
use Rattle.ber_spelling.specs.declared.spot.StringKind.{StringKind}
use Rattle.ber_spelling.specs.declared.spot.StringKind.TheVariants.{OfOctets, OfBits}
use Rattle.ber_spelling.specs.declared.spot.Gathered.{Gathered}
use Rattle.ber_spelling.specs.Order.{Filled}
use Rattle.ber_spelling.specs.Reading.{Spot, Opened, Ahead, ended, begun, Reading, ◌>>=◌, refuse}
use Rattle.ber_spelling.specs.Fields.{extent_at, contents_at, look_at}
use Rattle.ber_spelling.specs.Rules.{Reader, is_opened, expect_at, some_or_refuse, form_at, primitive_at, always, boolean_rule, is_strict_boolean, integer_rule, enumerated_rule, null_rule, object_id_rule, constructed_at, finish, item_at, items_at, all_items_at, segment_tag, nothing, segment_rule, segment_at, segmented_at, string_rule, string_at, whole_octets, whole_text, whole_bits, has_zero_bits, list_item_at, list_done, list_at, value_ahead, end_ahead, open_at, close_at, explicit_at, is_part, present_at, part_at, parts_at, sequence_at, nothing_filled, set_done, alone, cut_behind, late_kind, late_at, ordered_at, is_free, fill_at, slot_at, choice_at, anew, sized_at, marked_at, whole_at, any_at, dead, or_explicit, read_by, Guise, bare, plain, under, is_other, set_item_at, set_of_done, set_of_at}
use Rattle.ber_spelling.proofs.Steady.{Run, RunOf}
use Rattle.ber_spelling.proofs.Constructed.{BodyOf}
use Rattle.ber_spelling.proofs.Strict.{lax, Formal, same, Formal-bind, Formal-same, Formal-cond, Formal-asked, Formal-refl, lax_extent, extent_lax, contents_lax, look_lax, NoTag, NoTag-bind, extent_no_tag, contents_no_tag}
use Rattle.asn1_types.specs.Writing.{written}

pub record FormalRun {A : Type 0} (run : RunOf A) : Type 0 where
  pub each : (scope : Scope) (o : Opened) (s : Spot) → Formal same (run scope o s) (run (lax scope) o s)

pub record FormalBody {A : Type 0} (body : BodyOf A) : Type 0 where
  pub each : (scope : Scope) (s : Spot) → Formal same (body scope s) (body (lax scope) s)

form_formal : (scope : Scope) (place : ℕ) (canonical : Bool) → Formal same (form_at scope place canonical) (form_at (lax scope) place canonical)
form_formal scope place canonical = Formal-asked same (scope.strict && not canonical) place (Ok tt) (Ok tt) refl

-- ---- primitive and constructed values

prim_formal : {A : Type 0} (rule : List ℕ → Option A) (canonical : List ℕ → Bool) (tag : tags.Tag) → FormalRun (primitive_at rule canonical tag)
unfolding primitive_at
prim_formal {A} rule canonical tag = record {
  each = λ scope o s.
      Formal-same same (expect_at tag false o) _ _ (λ u.
      Formal-bind same same (contents_at scope s.place s.rest) (contents_at (lax scope) s.place s.rest) _ _ (contents_lax scope s.place s.rest) (λ c.
      Formal-same same (some_or_refuse c.0 (λ (x : A). x) (rule c.1)) _ _ (λ found.
      Formal-bind same same (form_at scope c.0 (canonical c.1)) (form_at (lax scope) c.0 (canonical c.1)) _ _ (form_formal scope c.0 (canonical c.1)) (λ u. refl))));
}

constructed_formal : {A : Type 0} (body : BodyOf A) (tag : tags.Tag) → FormalBody body → FormalRun (constructed_at body tag)
constructed_formal body tag h = record {
  each = λ scope o s.
      Formal-same same (expect_at tag true o) _ _ (λ u.
      Formal-bind lax_extent same (extent_at scope s.place s.rest) (extent_at (lax scope) s.place s.rest) _ _ (extent_lax scope s.place s.rest) (λ x. h.each x.0 x.1));
}

module _ {S T : Type 0} (step : S → Scope → Opened → Spot → Reading (S × Spot)) (done : S → Option T) (h : (a : S) → FormalRun (step a)) where
  item_formal : (turns : ℕ) (first : S) (scope : Scope) → ((next : S) (s : Spot) → Formal same (items_at step done turns next scope s) (items_at step done turns next (lax scope) s)) → (a : Ahead)
      → Formal same (item_at step done (λ next after. items_at step done turns next scope after) first scope a) (item_at step done (λ next after. items_at step done turns next (lax scope) after) first (lax scope) a)
  item_formal turns first scope ih (ended place after) = Formal-same same (finish place (done first)) _ _ (λ x. refl)
  item_formal turns first scope ih (begun o t) = Formal-bind same same (step first scope o t) (step first (lax scope) o t) _ _ ((h first).each scope o t) (λ x. ih x.0 x.1)

  items_formal : (turns : ℕ) (first : S) (scope : Scope) (s : Spot) → Formal same (items_at step done turns first scope s) (items_at step done turns first (lax scope) s)
  unfolding items_at
  items_formal zero first scope s = refl
  items_formal (suc turns) first scope s =
      Formal-bind same same (look_at scope s.place s.rest) (look_at (lax scope) s.place s.rest) _ _ (look_lax scope s.place s.rest) (λ a.
      item_formal turns first scope (λ next m. items_formal turns next scope m) a)

  pub all_formal : (first : S) → FormalBody (all_items_at step done first)
  all_formal first = record { each = λ scope s. items_formal (suc (length s.rest)) first scope s }

-- ---- strings and lists

abbrev some_gathered : Gathered → Option Gathered
some_gathered g = Some g

segment_formal : (kind : StringKind) (depth : ℕ) (before : Gathered) → FormalRun (segment_at kind depth before)
unfolding segment_at
segment_formal kind zero before = record { each = λ scope o s. inr refl }
segment_formal kind (suc depth) before = record {
  each = λ scope o s.
      Formal-cond same o.constructed _ _ _ _
      (λ t. (constructed_formal (all_items_at (segment_at kind depth) some_gathered before) (segment_tag kind) (all_formal (segment_at kind depth) some_gathered (λ a. segment_formal kind depth a) before)).each scope o s)
      (λ t. (prim_formal (segment_rule kind before) always (segment_tag kind)).each scope o s);
}

-- behind the length of a string in segments
abbrev segments_then : StringKind → (Gathered → Option Value) → ℕ → Scope × Spot → Reading (Value × Spot)
segments_then kind whole place x = all_items_at (segment_at kind 32) some_gathered nothing x.0 x.1 >>= λ g. some_or_refuse place (λ (v : Value). v) (whole g.0) >>= λ v. Ok (v, g.1)

segmented_formal : (kind : StringKind) (whole : Gathered → Option Value) (tag : tags.Tag) → FormalRun (segmented_at kind whole tag)
unfolding segmented_at
segmented_formal kind whole tag = record {
  each = λ scope o s.
      Formal-same same (expect_at tag true o) _ _ (λ u.
      Formal-bind same same (form_at scope o.start.place false) (form_at (lax scope) o.start.place false) _ _ (form_formal scope o.start.place false) (λ u.
      Formal-bind lax_extent same (extent_at scope s.place s.rest) (extent_at (lax scope) s.place s.rest) (segments_then kind whole o.start.place) (segments_then kind whole o.start.place) (extent_lax scope s.place s.rest) (λ x.
      Formal-bind same same (all_items_at (segment_at kind 32) some_gathered nothing x.0 x.1) (all_items_at (segment_at kind 32) some_gathered nothing (lax x.0) x.1) _ _ ((all_formal (segment_at kind 32) some_gathered (λ a. segment_formal kind 32 a) nothing).each x.0 x.1) (λ g.
      Formal-same same (some_or_refuse o.start.place (λ (v : Value). v) (whole g.0)) _ _ (λ v. refl)))));
}

string_formal : (kind : StringKind) (whole : Gathered → Option Value) (canonical : List ℕ → Bool) (tag : tags.Tag) → FormalRun (string_at kind whole canonical tag)
unfolding string_at
string_formal kind whole canonical tag = record {
  each = λ scope o s.
      Formal-cond same o.constructed _ _ _ _ (λ t. (segmented_formal kind whole tag).each scope o s) (λ t. (prim_formal (string_rule kind whole) canonical tag).each scope o s);
}

list_step_formal : (inner : Reader) → FormalRun (inner plain) → (before : List Value) → FormalRun (list_item_at inner before)
list_step_formal inner h before = record { each = λ scope o s. Formal-bind same same (inner plain scope o s) (inner plain (lax scope) o s) _ _ (h.each scope o s) (λ v. refl) }

list_formal : (inner : Reader) (tag : tags.Tag) → FormalRun (inner plain) → FormalRun (list_at inner tag)
list_formal inner tag h = constructed_formal (all_items_at (list_item_at inner) list_done []) tag (all_formal (list_item_at inner) list_done (λ a. list_step_formal inner h a) [])

set_step_formal : (spell : Value → List ℕ) (inner : Reader) → FormalRun (inner plain) → (before : List Value) → FormalRun (set_item_at spell inner before)
set_step_formal spell inner h before = record {
  each = λ scope o s.
      Formal-bind same same (inner plain scope o s) (inner plain (lax scope) o s) _ _ (h.each scope o s) (λ v.
      Formal-bind same same (form_at scope o.start.place (behind_last spell before v.0)) (form_at (lax scope) o.start.place (behind_last spell before v.0)) _ _ (form_formal scope o.start.place (behind_last spell before v.0)) (λ u. refl));
}

set_of_formal : (spell : Value → List ℕ) (inner : Reader) (tag : tags.Tag) → FormalRun (inner plain) → FormalRun (set_of_at spell inner tag)
set_of_formal spell inner tag h = constructed_formal (all_items_at (set_item_at spell inner) (set_of_done spell) []) tag (all_formal (set_item_at spell inner) (set_of_done spell) (λ a. set_step_formal spell inner h a) [])

-- ---- explicit tags

abbrev lax_open : Scope × Opened × Spot → Scope × Opened × Spot
lax_open x = (lax x.0, x.1, x.2)

open_formal : (tag : tags.Tag) (scope : Scope) (o : Opened) (s : Spot) → Formal lax_open (open_at tag scope o s) (open_at tag (lax scope) o s)
unfolding open_at
open_formal tag scope o s =
    Formal-same lax_open (expect_at tag true o) _ _ (λ u.
    Formal-bind lax_extent lax_open (extent_at scope s.place s.rest) (extent_at (lax scope) s.place s.rest) _ _ (extent_lax scope s.place s.rest) (λ x.
    Formal-bind same lax_open (look_at x.0 x.1.place x.1.rest) (look_at (lax x.0) x.1.place x.1.rest) _ _ (look_lax x.0 x.1.place x.1.rest) (λ a.
    Formal-same lax_open (value_ahead a) _ _ (λ f. refl))))

close_formal : (scope : Scope) (s : Spot) → Formal same (close_at scope s) (close_at (lax scope) s)
unfolding close_at
close_formal scope s = Formal-bind same same (look_at scope s.place s.rest) (look_at (lax scope) s.place s.rest) end_ahead end_ahead (look_lax scope s.place s.rest) (λ a. Formal-refl (end_ahead a))

explicit_formal : (run : Run) (tag : tags.Tag) → FormalRun run → FormalRun (explicit_at run tag)
unfolding explicit_at
explicit_formal run tag h = record {
  each = λ scope o s.
      Formal-bind lax_open same (open_at tag scope o s) (open_at tag (lax scope) o s) _ _ (open_formal tag scope o s) (λ x.
      Formal-bind same same (run x.0 x.1 x.2) (run (lax x.0) x.1 x.2) _ _ (h.each x.0 x.1 x.2) (λ v.
      Formal-bind same same (close_at x.0 v.1) (close_at (lax x.0) v.1) _ _ (close_formal x.0 v.1) (λ t. refl)));
}

or_formal : (run : Run) (t : Option tags.Tag) → FormalRun run → FormalRun (or_explicit run t)
or_formal run None h = h
or_formal run (Some t) h = explicit_formal run t h

-- ---- what is read of an identifier alone: no fault of a tag, or one that the identifier has in each scope

pub record TagAlone (run : Run) : Type 0 where
  pub each : (scope : Scope) (o : Opened) (s : Spot) → NoTag (run scope (alone o s) (cut_behind s)) ⊎ ((other : Scope) → run other o s ≡ refuse o.start.place Tag)

-- a reader that begins with a tag, and then wants octets
begins_tagged : (tag : tags.Tag) (constructed : Bool) (o : Opened) (s : Spot) (f : Unit {0} → Reading (Value × Spot)) (k : Scope → Unit {0} → Reading (Value × Spot)) → NoTag (f tt)
    → NoTag (expect_at tag constructed (alone o s) >>= f) ⊎ ((other : Scope) → (expect_at tag constructed o >>= k other) ≡ refuse o.start.place Tag)
begins_tagged tag constructed o s f k free = by_test (is_opened tag constructed o)
  where
    by_test : (b : Bool) → NoTag (cond b (Ok tt) (refuse s.place Tag) >>= f) ⊎ ((other : Scope) → (cond b (Ok tt) (refuse o.start.place Tag) >>= k other) ≡ refuse o.start.place Tag)
    by_test true = inl free
    by_test false = inr (λ other. refl)

prim_alone : (rule : List ℕ → Option Value) (canonical : List ℕ → Bool) (tag : tags.Tag) → TagAlone (primitive_at rule canonical tag)
unfolding primitive_at
prim_alone rule canonical tag = record {
  each = λ scope o s. begins_tagged tag false o s _ _ (NoTag-bind (contents_at scope s.place []) _ (contents_no_tag scope s.place));
}

constructed_alone : (body : BodyOf Value) (tag : tags.Tag) → TagAlone (constructed_at body tag)
constructed_alone body tag = record {
  each = λ scope o s. begins_tagged tag true o s _ _ (NoTag-bind (extent_at scope s.place []) _ (extent_no_tag scope s.place));
}

segmented_alone : (kind : StringKind) (whole : Gathered → Option Value) (tag : tags.Tag) → TagAlone (segmented_at kind whole tag)
unfolding segmented_at
segmented_alone kind whole tag = record {
  each = λ scope o s. begins_tagged tag true o s _ _ (asked (scope.strict && not false) s.place _ (NoTag-bind (extent_at scope s.place []) _ (extent_no_tag scope s.place)));
}
  where
    asked : (b : Bool) (place : ℕ) (f : Unit {0} → Reading (Value × Spot)) → NoTag (f tt) → NoTag (cond b (refuse place Form) (Ok tt) >>= f)
    asked true place f free = λ e. cc
    asked false place f free = free

string_alone : (kind : StringKind) (whole : Gathered → Option Value) (canonical : List ℕ → Bool) (tag : tags.Tag) → TagAlone (string_at kind whole canonical tag)
unfolding string_at
string_alone kind whole canonical tag = record {
  each = λ scope o s. by_form o.constructed scope o s ((segmented_alone kind whole tag).each scope o s) ((prim_alone (string_rule kind whole) canonical tag).each scope o s);
}
  where
    by_form : (b : Bool) (scope : Scope) (o : Opened) (s : Spot)
        → NoTag (segmented_at kind whole tag scope (alone o s) (cut_behind s)) ⊎ ((other : Scope) → segmented_at kind whole tag other o s ≡ refuse o.start.place Tag)
        → NoTag (primitive_at (string_rule kind whole) canonical tag scope (alone o s) (cut_behind s)) ⊎ ((other : Scope) → primitive_at (string_rule kind whole) canonical tag other o s ≡ refuse o.start.place Tag)
        → NoTag (cond b (segmented_at kind whole tag scope (alone o s) (cut_behind s)) (primitive_at (string_rule kind whole) canonical tag scope (alone o s) (cut_behind s)))
        ⊎ ((other : Scope) → cond b (segmented_at kind whole tag other o s) (primitive_at (string_rule kind whole) canonical tag other o s) ≡ refuse o.start.place Tag)
    by_form true scope o s p q = p
    by_form false scope o s p q = q

-- the same, where more is to come
begins_then : {A : Type 0} (tag : tags.Tag) (constructed : Bool) (o : Opened) (s : Spot) (f : Unit {0} → Reading A) (k : Scope → Unit {0} → Reading A) (g : A → Reading (Value × Spot)) (m : Scope → A → Reading (Value × Spot)) → NoTag (f tt)
    → NoTag ((expect_at tag constructed (alone o s) >>= f) >>= g) ⊎ ((other : Scope) → ((expect_at tag constructed o >>= k other) >>= m other) ≡ refuse o.start.place Tag)
begins_then {A} tag constructed o s f k g m free = by_test (is_opened tag constructed o)
  where
    by_test : (b : Bool) → NoTag ((cond b (Ok tt) (refuse s.place Tag) >>= f) >>= g) ⊎ ((other : Scope) → ((cond b (Ok tt) (refuse o.start.place Tag) >>= k other) >>= m other) ≡ refuse o.start.place Tag)
    by_test true = inl (NoTag-bind (f tt) g free)
    by_test false = inr (λ other. refl)

explicit_alone : (run : Run) (tag : tags.Tag) → TagAlone (explicit_at run tag)
unfolding explicit_at open_at
explicit_alone run tag = record {
  each = λ scope o s. begins_then tag true o s _ _ _ _ (NoTag-bind (extent_at scope s.place []) _ (extent_no_tag scope s.place));
}

or_alone : (run : Run) (t : Option tags.Tag) → TagAlone run → TagAlone (or_explicit run t)
or_alone run None h = h
or_alone run (Some t) h = explicit_alone run t

module _ (begins : ℕ → Class → ℕ → Bool) (inner : ℕ → Reader) where
  sequence_alone : (ps : List Part) (tag : tags.Tag) → TagAlone (sequence_at begins inner ps tag)
  unfolding sequence_at
  sequence_alone ps tag = record {
    each = λ scope o s. begins_tagged tag true o s _ _ (NoTag-bind (extent_at scope s.place []) _ (extent_no_tag scope s.place));
  }

  choice_alone : ((n : ℕ) (t : Guise) → TagAlone (inner n t)) → (which : ℕ) (ps : List Part) → TagAlone (choice_at begins inner which ps)
  unfolding choice_at
  choice_alone h which [] = record { each = λ scope o s. inr (λ other. refl) }
  choice_alone h which (p ∷ ps) = record {
    each = λ scope o s. by_tag (begins p.inner.0 o.class o.number) scope o s ((h p.inner.0 plain).each scope o s) ((choice_alone h (suc which) ps).each scope o s);
  }
    where
      by_tag : (b : Bool) (scope : Scope) (o : Opened) (s : Spot)
          → NoTag (inner p.inner.0 plain scope (alone o s) (cut_behind s)) ⊎ ((other : Scope) → inner p.inner.0 plain other o s ≡ refuse o.start.place Tag)
          → NoTag (choice_at begins inner (suc which) ps scope (alone o s) (cut_behind s)) ⊎ ((other : Scope) → choice_at begins inner (suc which) ps other o s ≡ refuse o.start.place Tag)
          → NoTag (cond b (inner p.inner.0 plain scope (alone o s) (cut_behind s) >>= λ v. Ok (Rattle.asn1_types.specs.Value.chosen which v.0, v.1)) (choice_at begins inner (suc which) ps scope (alone o s) (cut_behind s)))
          ⊎ ((other : Scope) → cond b (inner p.inner.0 plain other o s >>= λ v. Ok (Rattle.asn1_types.specs.Value.chosen which v.0, v.1)) (choice_at begins inner (suc which) ps other o s) ≡ refuse o.start.place Tag)
      by_tag true scope o s (inl free) q = inl (NoTag-bind (inner p.inner.0 plain scope (alone o s) (cut_behind s)) _ free)
      by_tag true scope o s (inr is) q = inr (λ other. rw (is other) refl)
      by_tag false scope o s p q = q

-- the octets that one whole value took
abbrev any_of : List ℕ → Unit {0} × Spot → Reading (Value × Spot)
any_of rest w = Ok (Rattle.asn1_types.specs.Value.any (take (length rest - length w.1.rest) rest), w.1)

abbrev unit_body : ℕ → Scope → Spot → Reading (Unit {0} × Spot)
unit_body depth = all_items_at (whole_at depth) (λ (u : Unit {0}). Some u) tt

any_alone : TagAlone any_at
unfolding any_at whole_at
any_alone = record { each = λ scope o s. by_tag (is_no_tag o.class o.number) scope o s }
  where
    by_tag : (b : Bool) (scope : Scope) (o : Opened) (s : Spot)
        → NoTag (cond b (refuse s.place Tag) (sized_at (anew 32 scope) (cut_behind s)) >>= any_of [])
        ⊎ ((other : Scope) → (cond b (refuse o.start.place Tag) (cond (is_marked s.rest && o.constructed) (marked_at (unit_body 31) (anew 32 other) s) (sized_at (anew 32 other) s)) >>= any_of o.start.rest) ≡ refuse o.start.place Tag)
    by_tag true scope o s = inr (λ other. refl)
    by_tag false scope o s = inl (NoTag-bind (sized_at (anew 32 scope) (cut_behind s)) (any_of []) (NoTag-bind (contents_at (anew 32 scope) s.place []) _ (contents_no_tag (anew 32 scope) s.place)))

-- ---- a part out of order: its identifier is at fault as in BER, or the form is

late_two : (r : Reading (Value × Spot)) → (late_kind Form r ≡ Tag) ⊎ (late_kind Form r ≡ Form)
late_two (Ok x) = inr refl
late_two (Err (faults.NotSpelled place Tag)) = inl refl
late_two (Err (faults.NotSpelled place Missing)) = inr refl
late_two (Err (faults.NotSpelled place Extra)) = inr refl
late_two (Err (faults.NotSpelled place Length)) = inr refl
late_two (Err (faults.NotSpelled place Content)) = inr refl
late_two (Err (faults.NotSpelled place Form)) = inr refl
late_two (Err faults.Short) = inr refl
late_two (Err (faults.TooDeep place)) = inr refl
late_two (Err (faults.TooLong place)) = inr refl
late_two (Err faults.NoMemory) = inr refl

late_free : (kind : Kind) (r : Reading (Value × Spot)) → NoTag r → late_kind kind r ≡ kind
late_free kind (Ok x) h = absurd h
late_free kind (Err (faults.NotSpelled place Tag)) h = absurd (h refl)
late_free kind (Err (faults.NotSpelled place Missing)) h = refl
late_free kind (Err (faults.NotSpelled place Extra)) h = refl
late_free kind (Err (faults.NotSpelled place Length)) h = refl
late_free kind (Err (faults.NotSpelled place Content)) h = refl
late_free kind (Err (faults.NotSpelled place Form)) h = refl
late_free kind (Err faults.Short) h = refl
late_free kind (Err (faults.TooDeep place)) h = refl
late_free kind (Err (faults.TooLong place)) h = refl
late_free kind (Err faults.NoMemory) h = refl

late_formal : (run : Run) → TagAlone run → (scope : Scope) (o : Opened) (s : Spot) → Formal same (late_at Form run scope o s) (run (lax scope) o s)
late_formal run h scope o s =
    elim (h.each scope o s) [
      | inl free ↦ inl (late_free Form (run scope (alone o s) (cut_behind s)) free)
      | inr is ↦ elim (late_two (run scope (alone o s) (cut_behind s))) [ inl tag ↦ inr (is (lax scope) ∙ ap (refuse o.start.place) (sym tag)) | inr form ↦ inl form ]
    ]

-- ---- a part that comes twice: its identifier is at fault in DER as in BER, or it is one too many

alone_same : (run : Run) → TagAlone run → (scope : Scope) (o : Opened) (s : Spot) → late_kind Extra (run scope (alone o s) (cut_behind s)) ≡ late_kind Extra (run (lax scope) (alone o s) (cut_behind s))
alone_same run h scope o s =
    elim (h.each scope (alone o s) (cut_behind s)) [
      | inl free ↦ elim (h.each (lax scope) (alone o s) (cut_behind s)) [
        | inl too ↦ late_free Extra (run scope (alone o s) (cut_behind s)) free ∙ sym (late_free Extra (run (lax scope) (alone o s) (cut_behind s)) too)
        | inr is ↦ absurd (subst (λ (r : Reading (Value × Spot)). NoTag r) (is scope) free refl)
      ]
      | inr is ↦ ap (late_kind Extra) (is scope ∙ sym (is (lax scope)))
    ]

twice_formal : (run : Run) → TagAlone run → (scope : Scope) (o : Opened) (s : Spot) → Formal {A = Filled × Spot} same (late_at Extra run scope o s) (late_at Extra run (lax scope) o s)
twice_formal run h scope o s = inr (ap (refuse o.start.place) (sym (alone_same run h scope o s)))

-- ---- SEQUENCE, SET and CHOICE

module _ (begins : ℕ → Class → ℕ → Bool) (inner : ℕ → Reader) (h : (n : ℕ) (t : Guise) → FormalRun (inner n t)) where
  present_formal : (p : Part) (scope : Scope) (a : Ahead) → Formal same (present_at (inner p.inner.0) p scope a) (present_at (inner p.inner.0) p (lax scope) a)
  present_formal p scope (ended place after) = inr refl
  present_formal p scope (begun o s) =
      Formal-bind same same (inner p.inner.0 (bare p.default) scope o s) (inner p.inner.0 (bare p.default) (lax scope) o s) _ _ ((h p.inner.0 (bare p.default)).each scope o s) (λ v.
      Formal-bind same same (look_at scope v.1.place v.1.rest) (look_at (lax scope) v.1.place v.1.rest) _ _ (look_lax scope v.1.place v.1.rest) (λ a. refl))

  part_formal : (p : Part) (scope : Scope) (a : Ahead) → Formal same (part_at begins (inner p.inner.0) p scope a) (part_at begins (inner p.inner.0) p (lax scope) a)
  unfolding part_at
  part_formal p scope a =
      Formal-cond same (is_part begins p a) _ _ _ _ (λ t. present_formal p scope a) (λ t. Formal-cond same (may_be_absent p) _ _ _ _ (λ t. refl) (λ t. inr refl))

  parts_formal : (ps : List Part) (scope : Scope) (a : Ahead) → Formal same (parts_at begins inner scope a ps) (parts_at begins inner (lax scope) a ps)
  unfolding parts_at
  parts_formal [] scope a = Formal-same same (end_ahead a) _ _ (λ t. refl)
  parts_formal (p ∷ ps) scope a =
      Formal-bind same same (part_at begins (inner p.inner.0) p scope a) (part_at begins (inner p.inner.0) p (lax scope) a) _ _ (part_formal p scope a) (λ x.
      Formal-bind same same (parts_at begins inner scope x.1 ps) (parts_at begins inner (lax scope) x.1 ps) _ _ (parts_formal ps scope x.1) (λ y. refl))

  -- behind the length of a SEQUENCE
  abbrev sequence_then : List Part → Scope × Spot → Reading (Value × Spot)
  sequence_then ps x = look_at x.0 x.1.place x.1.rest >>= λ a. parts_at begins inner x.0 a ps >>= λ found. Ok (Rattle.asn1_types.specs.Value.parts (parts_of found.0), found.1)

  sequence_formal : (ps : List Part) (tag : tags.Tag) → FormalRun (sequence_at begins inner ps tag)
  unfolding sequence_at
  sequence_formal ps tag = record {
    each = λ scope o s.
        Formal-same same (expect_at tag true o) _ _ (λ u.
        Formal-bind lax_extent same (extent_at scope s.place s.rest) (extent_at (lax scope) s.place s.rest) (sequence_then ps) (sequence_then ps) (extent_lax scope s.place s.rest) (λ x.
        Formal-bind same same (look_at x.0 x.1.place x.1.rest) (look_at (lax x.0) x.1.place x.1.rest) _ _ (look_lax x.0 x.1.place x.1.rest) (λ a.
        Formal-bind same same (parts_at begins inner x.0 a ps) (parts_at begins inner (lax x.0) a ps) _ _ (parts_formal ps x.0 a) (λ y. refl))));
  }

  choice_formal : (which : ℕ) (ps : List Part) → FormalRun (choice_at begins inner which ps)
  unfolding choice_at
  choice_formal which [] = record { each = λ scope o s. inr refl }
  choice_formal which (p ∷ ps) = record {
    each = λ scope o s.
        Formal-cond same (begins p.inner.0 o.class o.number) _ _ _ _
        (λ t. Formal-bind same same (inner p.inner.0 plain scope o s) (inner p.inner.0 plain (lax scope) o s) _ _ ((h p.inner.0 plain).each scope o s) (λ v. refl))
        (λ t. (choice_formal (suc which) ps).each scope o s);
  }

  module _ (l : (n : ℕ) (t : Guise) → TagAlone (inner n t)) where
    ordered_formal : (n : ℕ) (t : Guise) (least : ℕ) → FormalRun (ordered_at (inner n t) least)
    ordered_formal n t least = record { each = λ scope o s. by_order (scope.strict && nat_lt (rank o.class o.number) least) scope o s }
      where
        by_order : (b : Bool) (scope : Scope) (o : Opened) (s : Spot) → Formal same (cond b (late_at Form (inner n t) scope o s) (inner n t scope o s)) (inner n t (lax scope) o s)
        by_order true scope o s = late_formal (inner n t) (l n t) scope o s
        by_order false scope o s = (h n t).each scope o s

    fill_formal : (n : ℕ) (t : Guise) (which : ℕ) (before : Filled) → FormalRun (fill_at (inner n t) which before)
    fill_formal n t which before = record {
      each = λ scope o s.
          Formal-cond same (is_free (slice_get before.found which)) _ _ _ _
          (λ u. Formal-bind same same (ordered_at (inner n t) before.least scope o s) (ordered_at (inner n t) before.least (lax scope) o s) _ _ ((ordered_formal n t before.least).each scope o s) (λ v. refl))
          (λ u. twice_formal (inner n t) (l n t) scope o s);
    }

    slot_formal : (which : ℕ) (ps : List Part) (before : Filled) → FormalRun (slot_at begins inner which ps before)
    unfolding slot_at
    slot_formal which [] before = record { each = λ scope o s. inr refl }
    slot_formal which (p ∷ ps) before = record {
      each = λ scope o s.
          Formal-cond same (begins p.inner.0 o.class o.number) _ _ _ _
          (λ t. (fill_formal p.inner.0 (bare p.default) which before).each scope o s)
          (λ t. (slot_formal (suc which) ps before).each scope o s);
    }

    set_formal : (ps : List Part) → FormalBody (all_items_at (slot_at begins inner 0 ps) (set_done ps) (nothing_filled ps))
    set_formal ps = all_formal (slot_at begins inner 0 ps) (set_done ps) (λ before. slot_formal 0 ps before) (nothing_filled ps)

-- ---- one whole value of any type, whose form nobody asks for

whole_formal : (depth : ℕ) (before : Unit {0}) → FormalRun (whole_at depth before)
unfolding whole_at
whole_formal zero before = record { each = λ scope o s. inr refl }
whole_formal (suc inner) before = record { each = λ scope o s. Formal-refl _ }

any_formal : FormalRun any_at
unfolding any_at
any_formal = record {
  each = λ scope o s. Formal-bind same same (whole_at 32 tt scope o s) (whole_at 32 tt (lax scope) o s) (any_of o.start.rest) (any_of o.start.rest) ((whole_formal 32 tt).each scope o s) (λ w. refl);
}

-- ---- each row

pub record Strict (reader : Reader) : Type 0 where
  pub formal : (t : Guise) → FormalRun (reader t)
  pub tag_alone : (t : Guise) → TagAlone (reader t)

dead_strict : Strict dead
dead_strict = record { formal = λ t. record { each = λ scope o s. inr refl }; tag_alone = λ t. record { each = λ scope o s. inr (λ other. refl) } }

row_formal : (begins : ℕ → Class → ℕ → Bool) (spell : ℕ → Value → List ℕ) (inner : ℕ → Reader) → ((n : ℕ) → Strict (inner n)) → (r : TypeRow) (t : Guise) → FormalRun (read_by begins spell inner r t)
row_formal begins spell inner h row.Boolean t = prim_formal boolean_rule (λ c. is_strict_boolean c && is_other t.default (boolean_rule c)) (tag_or t.tag Universal 1)
row_formal begins spell inner h (row.Integer low high) t = prim_formal (integer_rule low high) (λ c. is_other t.default (integer_rule low high c)) (tag_or t.tag Universal 2)
row_formal begins spell inner h (row.Enumerated items) t = prim_formal (enumerated_rule items) (λ c. is_other t.default (enumerated_rule items c)) (tag_or t.tag Universal 10)
row_formal begins spell inner h row.Null t = prim_formal null_rule always (tag_or t.tag Universal 5)
row_formal begins spell inner h (row.OctetString most) t = string_formal OfOctets (whole_octets most) always (tag_or t.tag Universal 4)
row_formal begins spell inner h row.BitString t = string_formal OfBits whole_bits has_zero_bits (tag_or t.tag Universal 3)
row_formal begins spell inner h row.ObjectId t = prim_formal object_id_rule always (tag_or t.tag Universal 6)
row_formal begins spell inner h (row.Text kind) t = string_formal OfOctets (whole_text kind) always (tag_or t.tag Universal (text_number kind))
row_formal begins spell inner h (row.Sequence ps) t = sequence_formal begins inner (λ n t. (h n).formal t) ps (tag_or t.tag Universal 16)
row_formal begins spell inner h (row.Set ps) t = constructed_formal (all_items_at (slot_at begins inner 0 ps) (set_done ps) (nothing_filled ps)) (tag_or t.tag Universal 17) (set_formal begins inner (λ n t. (h n).formal t) (λ n t. (h n).tag_alone t) ps)
row_formal begins spell inner h (row.SequenceOf of) t = list_formal (inner of.0) (tag_or t.tag Universal 16) ((h of.0).formal plain)
row_formal begins spell inner h (row.SetOf of) t = set_of_formal (spell of.0) (inner of.0) (tag_or t.tag Universal 17) ((h of.0).formal plain)
row_formal begins spell inner h (row.Choice ps) t = or_formal (choice_at begins inner 0 ps) t.tag (choice_formal begins inner (λ n t. (h n).formal t) 0 ps)
row_formal begins spell inner h (row.Tagged class number true of) t = explicit_formal (inner of.0 (bare t.default)) (tag_or t.tag class number) ((h of.0).formal (bare t.default))
row_formal begins spell inner h (row.Tagged class number false of) t = (h of.0).formal (under (Some (tag_or t.tag class number)) t.default)
row_formal begins spell inner h row.Any t = or_formal any_at t.tag any_formal

row_alone : (begins : ℕ → Class → ℕ → Bool) (spell : ℕ → Value → List ℕ) (inner : ℕ → Reader) → ((n : ℕ) → Strict (inner n)) → (r : TypeRow) (t : Guise) → TagAlone (read_by begins spell inner r t)
row_alone begins spell inner h row.Boolean t = prim_alone boolean_rule (λ c. is_strict_boolean c && is_other t.default (boolean_rule c)) (tag_or t.tag Universal 1)
row_alone begins spell inner h (row.Integer low high) t = prim_alone (integer_rule low high) (λ c. is_other t.default (integer_rule low high c)) (tag_or t.tag Universal 2)
row_alone begins spell inner h (row.Enumerated items) t = prim_alone (enumerated_rule items) (λ c. is_other t.default (enumerated_rule items c)) (tag_or t.tag Universal 10)
row_alone begins spell inner h row.Null t = prim_alone null_rule always (tag_or t.tag Universal 5)
row_alone begins spell inner h (row.OctetString most) t = string_alone OfOctets (whole_octets most) always (tag_or t.tag Universal 4)
row_alone begins spell inner h row.BitString t = string_alone OfBits whole_bits has_zero_bits (tag_or t.tag Universal 3)
row_alone begins spell inner h row.ObjectId t = prim_alone object_id_rule always (tag_or t.tag Universal 6)
row_alone begins spell inner h (row.Text kind) t = string_alone OfOctets (whole_text kind) always (tag_or t.tag Universal (text_number kind))
row_alone begins spell inner h (row.Sequence ps) t = sequence_alone begins inner ps (tag_or t.tag Universal 16)
row_alone begins spell inner h (row.Set ps) t = constructed_alone (all_items_at (slot_at begins inner 0 ps) (set_done ps) (nothing_filled ps)) (tag_or t.tag Universal 17)
row_alone begins spell inner h (row.SequenceOf of) t = constructed_alone (all_items_at (list_item_at (inner of.0)) list_done []) (tag_or t.tag Universal 16)
row_alone begins spell inner h (row.SetOf of) t = constructed_alone (all_items_at (set_item_at (spell of.0) (inner of.0)) (set_of_done (spell of.0)) []) (tag_or t.tag Universal 17)
row_alone begins spell inner h (row.Choice ps) t = or_alone (choice_at begins inner 0 ps) t.tag (choice_alone begins inner (λ n t. (h n).tag_alone t) 0 ps)
row_alone begins spell inner h (row.Tagged class number true of) t = explicit_alone (inner of.0 (bare t.default)) (tag_or t.tag class number)
row_alone begins spell inner h (row.Tagged class number false of) t = (h of.0).tag_alone (under (Some (tag_or t.tag class number)) t.default)
row_alone begins spell inner h row.Any t = or_alone any_at t.tag any_alone

of_strict : (begins : ℕ → Class → ℕ → Bool) (spell : ℕ → Value → List ℕ) (inner : ℕ → Reader) → ((n : ℕ) → Strict (inner n)) → (o : Option TypeRow) → Strict (λ t. of_row dead (read_by begins spell inner) o t)
of_strict begins spell inner h None = dead_strict
of_strict begins spell inner h (Some r) = record { formal = row_formal begins spell inner h r; tag_alone = row_alone begins spell inner h r }

pub along_strict : (rows : List TypeRow) (turns n : ℕ) → Strict (along dead (read_by (begins rows) (written rows)) rows turns n)
along_strict rows zero n = dead_strict
along_strict rows (suc turns) n = of_strict (begins rows) (written rows) (along dead (read_by (begins rows) (written rows)) rows turns) (λ m. along_strict rows turns m) (slice_get rows n)
