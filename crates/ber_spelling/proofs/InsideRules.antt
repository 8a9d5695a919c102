-- Reading values of rows stays inside the octets.
use Rattle.std.proofs.Common.{ℕ, zero, suc, ◌≤◌, Bool, true, false, not, ◌&&◌, List, [], ◌∷◌, length, Option, Some, None}
use Rattle.std.specs.Prelude.{slice_get, nat_lt}
use Rattle.asn1_types.specs.declared.row.Class.{Class}
use Rattle.asn1_types.specs.declared.row.Class.TheVariants.{Universal}
use Rattle.asn1_types.specs.declared.row.Part.{Part}
use Rattle.asn1_types.specs.declared.row.TypeRow.{TypeRow}
use Rattle.asn1_types.specs.declared.row.TypeRow.TheVariants as row
use Rattle.asn1_types.specs.Defaults.{may_be_absent}
use Rattle.asn1_types.specs.Rows.{of_row, along, begins, text_number, is_no_tag}
use Rattle.asn1_types.specs.Value.{Value}
use Rattle.asn1_types.specs.Whole.{is_marked}
use Rattle.asn1_types.specs.Rising.{behind_last}
use Rattle.ber_spelling.specs.declared.spot.Scope.{Scope}
use Rattle.asn1_types.specs.declared.row.Tag as tags
use Rattle.asn1_types.specs.Tags.{rank, tag_or}
use Rattle.ber_spelling.specs.declared.spot.StringKind.{StringKind}
use Rattle.ber_spelling.specs.declared.spot.StringKind.TheVariants.{OfOctets, OfBits}
use Rattle.ber_spelling.specs.declared.spot.Gathered.{Gathered}
use Rattle.ber_spelling.specs.Order.{Filled}
use Rattle.ber_spelling.specs.Reading.{Spot, Opened, Ahead, ended, begun, Reading, ◌>>=◌}
use Rattle.ber_spelling.specs.Fields.{extent_at, contents_at, look_at}
use Rattle.ber_spelling.specs.Rules.{Reader, is_opened, expect_at, some_or_refuse, form_at, primitive_at, always, boolean_rule, is_strict_boolean, integer_rule, enumerated_rule, null_rule, object_id_rule, constructed_at, finish, item_at, items_at, all_items_at, segment_tag, nothing, segment_rule, segment_at, segmented_at, string_rule, string_at, whole_octets, whole_text, whole_bits, has_zero_bits, list_item_at, list_done, list_at, value_ahead, end_ahead, open_at, close_at, explicit_at, present_at, part_at, parts_at, sequence_at, nothing_filled, set_done, ordered_at, is_free, fill_at, slot_at, choice_at, anew, sized_at, marked_at, whole_at, any_at, dead, or_explicit, read_by, Guise, bare, plain, under, is_other, set_item_at, set_of_done, set_of_at}
use Rattle.ber_spelling.proofs.Steady.{Run, RunOf}
use Rattle.ber_spelling.proofs.Constructed.{BodyOf}
use Rattle.ber_spelling.proofs.Inside.{EndsAt, Inside, Inside-bind, Inside-cond, nowhere, second, Begun, Contained, Looked, extent_inside, contents_inside, look_inside}
use Rattle.asn1_types.specs.Writing.{written}

pub record InsideRun {A : Type 0} (run : RunOf A) : Type 0 where
  pub each : (end : ℕ) (scope : Scope) (o : Opened) (s : Spot) → o.start.place ≤ end → EndsAt end s → Inside (second end) end (run scope o s)

pub record InsideBody {A : Type 0} (body : BodyOf A) : Type 0 where
  pub each : (end : ℕ) (scope : Scope) (s : Spot) → EndsAt end s → Inside (second end) end (body scope s)

expect_inside : (tag : tags.Tag) (constructed : Bool) (o : Opened) (end : ℕ) → o.start.place ≤ end → Inside nowhere end (expect_at tag constructed o)
expect_inside tag constructed o end le = Inside-cond nowhere end (is_opened tag constructed o) _ _ (λ t. tt) (λ t. le)

-- behind an identifier that is this tag's
expected : {B : Type 0} (Q : B → Type 0) (tag : tags.Tag) (constructed : Bool) (o : Opened) (end : ℕ) (f : Unit {0} → Reading B) → o.start.place ≤ end → Inside Q end (f tt) → Inside Q end (expect_at tag constructed o >>= f)
expected Q tag constructed o end f le h = Inside-bind nowhere Q end (expect_at tag constructed o) f (expect_inside tag constructed o end le) (λ u k. h)

-- behind a form that is allowed
formed : {B : Type 0} (Q : B → Type 0) (scope : Scope) (place : ℕ) (canonical : Bool) (end : ℕ) (f : Unit {0} → Reading B) → place ≤ end → Inside Q end (f tt) → Inside Q end (form_at scope place canonical >>= f)
formed Q scope place canonical end f le h = Inside-bind nowhere Q end (form_at scope place canonical) f (Inside-cond nowhere end (scope.strict && not canonical) _ _ (λ t. le) (λ t. tt)) (λ u k. h)

abbrev anything : {A : Type 0} → A → Type 0
anything x = Unit {0}

judge_inside : {A B : Type 0} (place : ℕ) (made : A → B) (found : Option A) (end : ℕ) → place ≤ end → Inside anything end (some_or_refuse place made found)
judge_inside place made None end le = le
judge_inside place made (Some x) end le = tt

-- ---- primitive and constructed values

prim_inside : {A : Type 0} (rule : List ℕ → Option A) (canonical : List ℕ → Bool) (tag : tags.Tag) → InsideRun (primitive_at rule canonical tag)
unfolding primitive_at
prim_inside {A} rule canonical tag = record {
  each = λ end scope o s le e.
      expected (second end) tag false o end _ le
      (Inside-bind (Contained end) (second end) end (contents_at scope s.place s.rest) _ (contents_inside scope s.place s.rest end e) (λ c k.
      Inside-bind anything (second end) end (some_or_refuse c.0 (λ (x : A). x) (rule c.1)) _ (judge_inside c.0 (λ (x : A). x) (rule c.1) end k.0) (λ found u.
      formed (second end) scope c.0 (canonical c.1) end _ k.0 k.1)));
}

constructed_inside : {A : Type 0} (body : BodyOf A) (tag : tags.Tag) → InsideBody body → InsideRun (constructed_at body tag)
constructed_inside body tag h = record {
  each = λ end scope o s le e.
      expected (second end) tag true o end _ le
      (Inside-bind (second end) (second end) end (extent_at scope s.place s.rest) _ (extent_inside scope s.place s.rest end e) (λ x k. h.each end x.0 x.1 k));
}

module _ {S T : Type 0} (step : S → Scope → Opened → Spot → Reading (S × Spot)) (done : S → Option T) (h : (a : S) → InsideRun (step a)) where
  finish_inside : (place : ℕ) (found : Option T) (end : ℕ) → place ≤ end → Inside anything end (finish place found)
  finish_inside place None end le = le
  finish_inside place (Some x) end le = tt

  item_inside : (end : ℕ) (more : S → Spot → Reading (T × Spot)) → ((next : S) (s : Spot) → EndsAt end s → Inside (second end) end (more next s)) → (first : S) (scope : Scope) (a : Ahead) → Looked end a → Inside (second end) end (item_at step done more first scope a)
  item_inside end more ih first scope (ended place after) k =
      Inside-bind anything (second end) end (finish place (done first)) _ (finish_inside place (done first) end k.0) (λ x u. k.1)
  item_inside end more ih first scope (begun o t) k =
      Inside-bind (second end) (second end) end (step first scope o t) _ ((h first).each end scope o t k.0 k.1) (λ x l. ih x.0 x.1 l)

  items_inside : (turns : ℕ) (first : S) (end : ℕ) (scope : Scope) (s : Spot) → EndsAt end s → Inside (second end) end (items_at step done turns first scope s)
  unfolding items_at
  items_inside zero first end scope s e = tt
  items_inside (suc turns) first end scope s e =
      Inside-bind (Looked end) (second end) end (look_at scope s.place s.rest) _ (look_inside scope s.place s.rest end e) (λ a k.
      item_inside end (λ next after. items_at step done turns next scope after) (λ next t l. items_inside turns next end scope t l) first scope a k)

  pub all_inside : (first : S) → InsideBody (all_items_at step done first)
  all_inside first = record { each = λ end scope s e. items_inside (suc (length s.rest)) first end scope s e }

-- ---- strings and lists

abbrev some_gathered : Gathered → Option Gathered
some_gathered g = Some g

segment_inside : (kind : StringKind) (depth : ℕ) (before : Gathered) → InsideRun (segment_at kind depth before)
unfolding segment_at
segment_inside kind zero before = record { each = λ end scope o s le e. le }
segment_inside kind (suc depth) before = record {
  each = λ end scope o s le e.
      Inside-cond (second end) end o.constructed _ _
      (λ t. (constructed_inside (all_items_at (segment_at kind depth) some_gathered before) (segment_tag kind) (all_inside (segment_at kind depth) some_gathered (λ a. segment_inside kind depth a) before)).each end scope o s le e)
      (λ t. (prim_inside (segment_rule kind before) always (segment_tag kind)).each end scope o s le e);
}

segmented_inside : (kind : StringKind) (whole : Gathered → Option Value) (tag : tags.Tag) → InsideRun (segmented_at kind whole tag)
unfolding segmented_at
segmented_inside kind whole tag = record {
  each = λ end scope o s le e.
      expected (second end) tag true o end _ le
      (formed (second end) scope o.start.place false end _ le
      (Inside-bind (second end) (second end) end (extent_at scope s.place s.rest) _ (extent_inside scope s.place s.rest end e) (λ x k.
      Inside-bind (second end) (second end) end (all_items_at (segment_at kind 32) some_gathered nothing x.0 x.1) _ ((all_inside (segment_at kind 32) some_gathered (λ a. segment_inside kind 32 a) nothing).each end x.0 x.1 k) (λ g l.
      Inside-bind anything (second end) end (some_or_refuse o.start.place (λ (v : Value). v) (whole g.0)) _ (judge_inside o.start.place (λ (v : Value). v) (whole g.0) end le) (λ v u. l)))));
}

string_inside : (kind : StringKind) (whole : Gathered → Option Value) (canonical : List ℕ → Bool) (tag : tags.Tag) → InsideRun (string_at kind whole canonical tag)
unfolding string_at
string_inside kind whole canonical tag = record {
  each = λ end scope o s le e.
      Inside-cond (second end) end o.constructed _ _
      (λ t. (segmented_inside kind whole tag).each end scope o s le e)
      (λ t. (prim_inside (string_rule kind whole) canonical tag).each end scope o s le e);
}

list_step_inside : (inner : Reader) → InsideRun (inner plain) → (before : List Value) → InsideRun (list_item_at inner before)
list_step_inside inner h before = record {
  each = λ end scope o s le e. Inside-bind (second end) (second end) end (inner plain scope o s) _ (h.each end scope o s le e) (λ v k. k);
}

list_inside : (inner : Reader) (tag : tags.Tag) → InsideRun (inner plain) → InsideRun (list_at inner tag)
list_inside inner tag h = constructed_inside (all_items_at (list_item_at inner) list_done []) tag (all_inside (list_item_at inner) list_done (λ a. list_step_inside inner h a) [])

set_step_inside : (spell : Value → List ℕ) (inner : Reader) → InsideRun (inner plain) → (before : List Value) → InsideRun (set_item_at spell inner before)
set_step_inside spell inner h before = record {
  each = λ end scope o s le e. Inside-bind (second end) (second end) end (inner plain scope o s) _ (h.each end scope o s le e) (λ v k. formed (second end) scope o.start.place (behind_last spell before v.0) end _ le k);
}

set_of_inside : (spell : Value → List ℕ) (inner : Reader) (tag : tags.Tag) → InsideRun (inner plain) → InsideRun (set_of_at spell inner tag)
set_of_inside spell inner tag h = constructed_inside (all_items_at (set_item_at spell inner) (set_of_done spell) []) tag (all_inside (set_item_at spell inner) (set_of_done spell) (λ a. set_step_inside spell inner h a) [])

-- ---- explicit tags

abbrev Open : ℕ → Scope × Opened × Spot → Type 0
Open end x = (x.1.start.place ≤ end) × EndsAt end x.2

first_inside : (a : Ahead) (end : ℕ) → Looked end a → Inside (Begun end) end (value_ahead a)
first_inside (ended place after) end k = k.0
first_inside (begun o s) end k = k

last_inside : (a : Ahead) (end : ℕ) → Looked end a → Inside (EndsAt end) end (end_ahead a)
last_inside (ended place after) end k = k.1
last_inside (begun o s) end k = k.0

open_inside : (tag : tags.Tag) (scope : Scope) (o : Opened) (s : Spot) (end : ℕ) → o.start.place ≤ end → EndsAt end s → Inside (Open end) end (open_at tag scope o s)
unfolding open_at
open_inside tag scope o s end le e =
    expected (Open end) tag true o end _ le
    (Inside-bind (second end) (Open end) end (extent_at scope s.place s.rest) _ (extent_inside scope s.place s.rest end e) (λ x k.
    Inside-bind (Looked end) (Open end) end (look_at x.0 x.1.place x.1.rest) _ (look_inside x.0 x.1.place x.1.rest end k) (λ a l.
    Inside-bind (Begun end) (Open end) end (value_ahead a) _ (first_inside a end l) (λ f m. m))))

close_inside : (scope : Scope) (s : Spot) (end : ℕ) → EndsAt end s → Inside (EndsAt end) end (close_at scope s)
unfolding close_at
close_inside scope s end e = Inside-bind (Looked end) (EndsAt end) end (look_at scope s.place s.rest) end_ahead (look_inside scope s.place s.rest end e) (λ a k. last_inside a end k)

explicit_inside : (run : Run) (tag : tags.Tag) → InsideRun run → InsideRun (explicit_at run tag)
unfolding explicit_at
explicit_inside run tag h = record {
  each = λ end scope o s le e.
      Inside-bind (Open end) (second end) end (open_at tag scope o s) _ (open_inside tag scope o s end le e) (λ x k.
      Inside-bind (second end) (second end) end (run x.0 x.1 x.2) _ (h.each end x.0 x.1 x.2 k.0 k.1) (λ v l.
      Inside-bind (EndsAt end) (second end) end (close_at x.0 v.1) _ (close_inside x.0 v.1 end l) (λ t m. m)));
}

or_inside : (run : Run) (t : Option tags.Tag) → InsideRun run → InsideRun (or_explicit run t)
or_inside run None h = h
or_inside run (Some t) h = explicit_inside run t h

-- ---- SEQUENCE, SET and CHOICE

module _ (begins : ℕ → Class → ℕ → Bool) (inner : ℕ → Reader) (h : (n : ℕ) (t : Guise) → InsideRun (inner n t)) where
  abbrev ahead_of : ℕ → Option Value × Ahead → Type 0
  ahead_of end x = Looked end x.1

  present_inside : (p : Part) (scope : Scope) (a : Ahead) (end : ℕ) → Looked end a → Inside (ahead_of end) end (present_at (inner p.inner.0) p scope a)
  present_inside p scope (ended place after) end k = k.0
  present_inside p scope (begun o s) end k =
      Inside-bind (second end) (ahead_of end) end (inner p.inner.0 (bare p.default) scope o s) _ ((h p.inner.0 (bare p.default)).each end scope o s k.0 k.1) (λ v l.
      Inside-bind (Looked end) (ahead_of end) end (look_at scope v.1.place v.1.rest) _ (look_inside scope v.1.place v.1.rest end l) (λ a m. m))

  part_inside : (p : Part) (scope : Scope) (a : Ahead) (end : ℕ) → Looked end a → Inside (ahead_of end) end (part_at begins (inner p.inner.0) p scope a)
  unfolding part_at
  part_inside p scope (ended place after) end k = Inside-cond (ahead_of end) end (may_be_absent p) _ _ (λ t. k) (λ t. k.0)
  part_inside p scope (begun o s) end k =
      Inside-cond (ahead_of end) end (begins p.inner.0 o.class o.number) _ _ (λ t. present_inside p scope (begun o s) end k)
      (λ t. Inside-cond (ahead_of end) end (may_be_absent p) _ _ (λ t. k) (λ t. k.0))

  parts_inside : (ps : List Part) (scope : Scope) (a : Ahead) (end : ℕ) → Looked end a → Inside (second end) end (parts_at begins inner scope a ps)
  unfolding parts_at
  parts_inside [] scope a end k = Inside-bind (EndsAt end) (second end) end (end_ahead a) _ (last_inside a end k) (λ t m. m)
  parts_inside (p ∷ ps) scope a end k =
      Inside-bind (ahead_of end) (second end) end (part_at begins (inner p.inner.0) p scope a) _ (part_inside p scope a end k) (λ x l.
      Inside-bind (second end) (second end) end (parts_at begins inner scope x.1 ps) _ (parts_inside ps scope x.1 end l) (λ y m. m))

  sequence_inside : (ps : List Part) (tag : tags.Tag) → InsideRun (sequence_at begins inner ps tag)
  unfolding sequence_at
  sequence_inside ps tag = record {
    each = λ end scope o s le e.
        expected (second end) tag true o end _ le
        (Inside-bind (second end) (second end) end (extent_at scope s.place s.rest) _ (extent_inside scope s.place s.rest end e) (λ x k.
        Inside-bind (Looked end) (second end) end (look_at x.0 x.1.place x.1.rest) _ (look_inside x.0 x.1.place x.1.rest end k) (λ a l.
        Inside-bind (second end) (second end) end (parts_at begins inner x.0 a ps) _ (parts_inside ps x.0 a end l) (λ y m. m))));
  }

  ordered_inside : (n : ℕ) (t : Guise) (least : ℕ) → InsideRun (ordered_at (inner n t) least)
  ordered_inside n t least = record {
    each = λ end scope o s le e. Inside-cond (second end) end (scope.strict && nat_lt (rank o.class o.number) least) _ _ (λ u. le) (λ u. (h n t).each end scope o s le e);
  }

  fill_inside : (n : ℕ) (t : Guise) (which : ℕ) (before : Filled) → InsideRun (fill_at (inner n t) which before)
  fill_inside n t which before = record {
    each = λ end scope o s le e.
        Inside-cond (second end) end (is_free (slice_get before.found which)) _ _
        (λ u. Inside-bind (second end) (second end) end (ordered_at (inner n t) before.least scope o s) _ ((ordered_inside n t before.least).each end scope o s le e) (λ v k. k))
        (λ u. le);
  }

  slot_inside : (which : ℕ) (ps : List Part) (before : Filled) → InsideRun (slot_at begins inner which ps before)
  unfolding slot_at
  slot_inside which [] before = record { each = λ end scope o s le e. le }
  slot_inside which (p ∷ ps) before = record {
    each = λ end scope o s le e.
        Inside-cond (second end) end (begins p.inner.0 o.class o.number) _ _
        (λ t. (fill_inside p.inner.0 (bare p.default) which before).each end scope o s le e)
        (λ t. (slot_inside (suc which) ps before).each end scope o s le e);
  }

  set_inside : (ps : List Part) → InsideBody (all_items_at (slot_at begins inner 0 ps) (set_done ps) (nothing_filled ps))
  set_inside ps = all_inside (slot_at begins inner 0 ps) (set_done ps) (λ before. slot_inside 0 ps before) (nothing_filled ps)

  choice_inside : (which : ℕ) (ps : List Part) → InsideRun (choice_at begins inner which ps)
  unfolding choice_at
  choice_inside which [] = record { each = λ end scope o s le e. le }
  choice_inside which (p ∷ ps) = record {
    each = λ end scope o s le e.
        Inside-cond (second end) end (begins p.inner.0 o.class o.number) _ _
        (λ t. Inside-bind (second end) (second end) end (inner p.inner.0 plain scope o s) _ ((h p.inner.0 plain).each end scope o s le e) (λ v k. k))
        (λ t. (choice_inside (suc which) ps).each end scope o s le e);
  }

-- ---- one whole value of any type

sized_inside : (scope : Scope) (s : Spot) (end : ℕ) → EndsAt end s → Inside (second end) end (sized_at scope s)
sized_inside scope s end e = Inside-bind (Contained end) (second end) end (contents_at scope s.place s.rest) _ (contents_inside scope s.place s.rest end e) (λ c k. k.1)

marked_inside : (body : Scope → Spot → Reading (Unit {0} × Spot)) → InsideBody body → (scope : Scope) (s : Spot) (end : ℕ) → EndsAt end s → Inside (second end) end (marked_at body scope s)
marked_inside body h scope s end e = Inside-bind (second end) (second end) end (extent_at scope s.place s.rest) _ (extent_inside scope s.place s.rest end e) (λ x k. h.each end x.0 x.1 k)

whole_inside : (depth : ℕ) (before : Unit {0}) → InsideRun (whole_at depth before)
unfolding whole_at
whole_inside zero before = record { each = λ end scope o s le e. le }
whole_inside (suc inner) before = record {
  each = λ end scope o s le e.
      Inside-cond (second end) end (is_no_tag o.class o.number) _ _ (λ t. le) (λ t.
      Inside-cond (second end) end (is_marked s.rest && o.constructed) _ _
      (λ t. marked_inside (all_items_at (whole_at inner) (λ (u : Unit {0}). Some u) tt) (all_inside (whole_at inner) (λ (u : Unit {0}). Some u) (λ a. whole_inside inner a) tt) (anew (suc inner) scope) s end e)
      (λ t. sized_inside (anew (suc inner) scope) s end e));
}

any_inside : InsideRun any_at
unfolding any_at
any_inside = record {
  each = λ end scope o s le e. Inside-bind (second end) (second end) end (whole_at 32 tt scope o s) _ ((whole_inside 32 tt).each end scope o s le e) (λ w k. k);
}

-- ---- each row

dead_inside : (t : Guise) → InsideRun (dead t)
dead_inside t = record { each = λ end scope o s le e. le }

row_inside : (begins : ℕ → Class → ℕ → Bool) (spell : ℕ → Value → List ℕ) (inner : ℕ → Reader) → ((n : ℕ) (t : Guise) → InsideRun (inner n t)) → (r : TypeRow) (t : Guise) → InsideRun (read_by begins spell inner r t)
row_inside begins spell inner h row.Boolean t = prim_inside boolean_rule (λ c. is_strict_boolean c && is_other t.default (boolean_rule c)) (tag_or t.tag Universal 1)
row_inside begins spell inner h (row.Integer low high) t = prim_inside (integer_rule low high) (λ c. is_other t.default (integer_rule low high c)) (tag_or t.tag Universal 2)
row_inside begins spell inner h (row.Enumerated items) t = prim_inside (enumerated_rule items) (λ c. is_other t.default (enumerated_rule items c)) (tag_or t.tag Universal 10)
row_inside begins spell inner h row.Null t = prim_inside null_rule always (tag_or t.tag Universal 5)
row_inside begins spell inner h (row.OctetString most) t = string_inside OfOctets (whole_octets most) always (tag_or t.tag Universal 4)
row_inside begins spell inner h row.BitString t = string_inside OfBits whole_bits has_zero_bits (tag_or t.tag Universal 3)
row_inside begins spell inner h row.ObjectId t = prim_inside object_id_rule always (tag_or t.tag Universal 6)
row_inside begins spell inner h (row.Text kind) t = string_inside OfOctets (whole_text kind) always (tag_or t.tag Universal (text_number kind))
row_inside begins spell inner h (row.Sequence ps) t = sequence_inside begins inner h ps (tag_or t.tag Universal 16)
row_inside begins spell inner h (row.Set ps) t = constructed_inside (all_items_at (slot_at begins inner 0 ps) (set_done ps) (nothing_filled ps)) (tag_or t.tag Universal 17) (set_inside begins inner h ps)
row_inside begins spell inner h (row.SequenceOf of) t = list_inside (inner of.0) (tag_or t.tag Universal 16) (h of.0 plain)
row_inside begins spell inner h (row.SetOf of) t = set_of_inside (spell of.0) (inner of.0) (tag_or t.tag Universal 17) (h of.0 plain)
row_inside begins spell inner h (row.Choice ps) t = or_inside (choice_at begins inner 0 ps) t.tag (choice_inside begins inner h 0 ps)
row_inside begins spell inner h (row.Tagged class number true of) t = explicit_inside (inner of.0 (bare t.default)) (tag_or t.tag class number) (h of.0 (bare t.default))
row_inside begins spell inner h (row.Tagged class number false of) t = h of.0 (under (Some (tag_or t.tag class number)) t.default)
row_inside begins spell inner h row.Any t = or_inside any_at t.tag any_inside

of_inside : (begins : ℕ → Class → ℕ → Bool) (spell : ℕ → Value → List ℕ) (inner : ℕ → Reader) → ((n : ℕ) (t : Guise) → InsideRun (inner n t)) → (o : Option TypeRow) (t : Guise) → InsideRun (of_row dead (read_by begins spell inner) o t)
of_inside begins spell inner h None t = dead_inside t
of_inside begins spell inner h (Some r) t = row_inside begins spell inner h r t

pub along_inside : (rows : List TypeRow) (turns n : ℕ) (t : Guise) → InsideRun (along dead (read_by (begins rows) (written rows)) rows turns n t)
along_inside rows zero n t = dead_inside t
along_inside rows (suc turns) n t = of_inside (begins rows) (written rows) (along dead (read_by (begins rows) (written rows)) rows turns) (λ m u. along_inside rows turns m u) (slice_get rows n) t
