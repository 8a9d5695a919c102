-- Values that end too early have no octet past the limit, and what is read of a value is within it.
use Rattle.std.proofs.Common.{◌≡◌, cond, Ok, Err, ℕ, zero, suc, ◌+◌, ◌≤◌, ◌<◌, arith, Bool, true, false, not, ◌&&◌, List, [], ◌∷◌, length, Option, Some, None}
use Rattle.std.specs.Prelude.{slice_get, nat_lt}
use Rattle.asn1_types.specs.declared.row.Class.{Class}
use Rattle.asn1_types.specs.declared.row.Class.TheVariants.{Universal}
use Rattle.asn1_types.specs.declared.row.Part.{Part}
use Rattle.asn1_types.specs.declared.row.TypeRow.{TypeRow}
use Rattle.asn1_types.specs.declared.row.TypeRow.TheVariants as row
use Rattle.asn1_types.specs.Defaults.{may_be_absent}
use Rattle.asn1_types.specs.Rows.{of_row, along, begins, text_number, is_no_tag}
use Rattle.asn1_types.specs.Value.{Value}
use Rattle.asn1_types.specs.Whole.{is_marked}
use Rattle.osi_base.specs.declared.layer_words.Kind.{Kind}
use Rattle.osi_base.specs.declared.layer_words.Kind.TheVariants.{Tag, Form}
use Rattle.ber_spelling.specs.declared.fault.ReadFault.TheVariants as faults
use Rattle.ber_spelling.specs.declared.spot.Scope.{Scope}
use Rattle.asn1_types.specs.declared.row.Tag as tags
use Rattle.asn1_types.specs.Tags.{rank, tag_or}
use Rattle.asn1_types.specs.Writing.{written}
use Rattle.asn1_types.specs.Rising.{behind_last}
use Rattle.ber_spelling.specs.declared.spot.StringKind.{StringKind}
use Rattle.ber_spelling.specs.declared.spot.StringKind.TheVariants.{OfOctets, OfBits}
use Rattle.ber_spelling.specs.declared.spot.Gathered.{Gathered}
use Rattle.ber_spelling.specs.Order.{Filled}
use Rattle.ber_spelling.specs.Reading.{Spot, Opened, Ahead, ended, begun, Reading, ◌>>=◌}
use Rattle.ber_spelling.specs.Fields.{extent_at, contents_at, look_at}
use Rattle.ber_spelling.specs.Rules.{Reader, is_opened, expect_at, some_or_refuse, form_at, primitive_at, always, boolean_rule, is_strict_boolean, integer_rule, enumerated_rule, null_rule, object_id_rule, constructed_at, finish, item_at, items_at, all_items_at, segment_tag, nothing, segment_rule, segment_at, segmented_at, string_rule, string_at, whole_octets, whole_text, whole_bits, has_zero_bits, list_item_at, list_done, list_at, value_ahead, end_ahead, open_at, close_at, explicit_at, present_at, part_at, parts_at, sequence_at, nothing_filled, set_done, ordered_at, is_free, fill_at, slot_at, choice_at, anew, sized_at, marked_at, whole_at, any_at, dead, or_explicit, read_by, Guise, bare, plain, under, is_other, set_item_at, set_of_done, set_of_at}
use Rattle.ber_spelling.proofs.Steady.{Run, RunOf}
use Rattle.ber_spelling.proofs.Constructed.{BodyOf}
use Rattle.ber_spelling.proofs.Reach.{Bounded, Bounded-bind, Bounded-cond, Stands, later, StandsIn, second, third, Looked, extent_bounded, contents_bounded, look_bounded}

pub record BoundedRun {A : Type 0} (run : RunOf A) : Type 0 where
  pub each : (limit end : ℕ) (scope : Scope) (o : Opened) (s : Spot) → scope.limit ≡ limit → Stands limit end s.place s → Bounded (second limit end s.place) limit end (run scope o s)

pub record BoundedBody {A : Type 0} (body : BodyOf A) : Type 0 where
  pub each : (limit end : ℕ) (scope : Scope) (s : Spot) → scope.limit ≡ limit → Stands limit end s.place s → Bounded (second limit end s.place) limit end (body scope s)

-- a spot stands from its own place on
own : (limit end from : ℕ) (s : Spot) → Stands limit end from s → Stands limit end s.place s
own limit end from s h = record { ends = h.ends; onward = omega arith; short = h.short }

-- what goes on from a later place
weaken : {A : Type 0} (limit end a b : ℕ) (r : Reading (A × Spot)) → a ≤ b → Bounded (second limit end b) limit end r → Bounded (second limit end a) limit end r
weaken limit end a b (Ok x) le h = later limit end a b x.1 le h
weaken limit end a b (Err (faults.NotSpelled place kind)) le h = tt
weaken limit end a b (Err faults.Short) le h = h
weaken limit end a b (Err (faults.TooDeep place)) le h = tt
weaken limit end a b (Err (faults.TooLong place)) le h = tt
weaken limit end a b (Err faults.NoMemory) le h = tt

-- behind a step that takes no octet and is never too short
abbrev Sure : {A : Type 0} → Reading A → Type 0
Sure (Ok x) = Unit {0}
Sure (Err (faults.NotSpelled place kind)) = Unit {0}
Sure (Err faults.Short) = ⊥
Sure (Err (faults.TooDeep place)) = Unit {0}
Sure (Err (faults.TooLong place)) = Unit {0}
Sure (Err faults.NoMemory) = Unit {0}

surely : {A B : Type 0} (Q : B → Type 0) (limit end : ℕ) (r : Reading A) (f : A → Reading B) → Sure r → ((x : A) → Bounded Q limit end (f x)) → Bounded Q limit end (r >>= f)
surely Q limit end (Ok x) f a b = b x
surely Q limit end (Err (faults.NotSpelled place kind)) f a b = tt
surely Q limit end (Err faults.Short) f a b = absurd a
surely Q limit end (Err (faults.TooDeep place)) f a b = tt
surely Q limit end (Err (faults.TooLong place)) f a b = tt
surely Q limit end (Err faults.NoMemory) f a b = tt

cond_sure : (b : Bool) (x : Unit {0}) (place : ℕ) (kind : Kind) → Sure (cond b (Ok x) (Err (faults.NotSpelled place kind)))
cond_sure true x place kind = tt
cond_sure false x place kind = tt

cond_not_sure : (b : Bool) (x : Unit {0}) (place : ℕ) (kind : Kind) → Sure (cond b (Err (faults.NotSpelled place kind)) (Ok x))
cond_not_sure true x place kind = tt
cond_not_sure false x place kind = tt

expect_sure : (tag : tags.Tag) (constructed : Bool) (o : Opened) → Sure (expect_at tag constructed o)
expect_sure tag constructed o = cond_sure (is_opened tag constructed o) tt o.start.place Tag

form_sure : (scope : Scope) (place : ℕ) (canonical : Bool) → Sure (form_at scope place canonical)
form_sure scope place canonical = cond_not_sure (scope.strict && not canonical) tt place Form

judge_sure : {A B : Type 0} (place : ℕ) (made : A → B) (found : Option A) → Sure (some_or_refuse place made found)
judge_sure place made None = tt
judge_sure place made (Some x) = tt

finish_sure : {T : Type 0} (place : ℕ) (found : Option T) → Sure (finish place found)
finish_sure place None = tt
finish_sure place (Some x) = tt

-- ---- primitive and constructed values

prim_bounded : {A : Type 0} (rule : List ℕ → Option A) (canonical : List ℕ → Bool) (tag : tags.Tag) → BoundedRun (primitive_at rule canonical tag)
unfolding primitive_at
prim_bounded {A} rule canonical tag = record {
  each = λ limit end scope o s same h.
      let Q : A × Spot → Type 0 = second limit end s.place in
      surely Q limit end (expect_at tag false o) _ (expect_sure tag false o) (λ u.
      Bounded-bind (third limit end s.place) Q limit end (contents_at scope s.place s.rest) _ (contents_bounded limit end scope s.place s.rest same h.short h.ends) (λ c k.
      surely Q limit end (some_or_refuse c.0 (λ (x : A). x) (rule c.1)) _ (judge_sure c.0 (λ (x : A). x) (rule c.1)) (λ found.
      surely Q limit end (form_at scope c.0 (canonical c.1)) _ (form_sure scope c.0 (canonical c.1)) (λ v. k))));
}

constructed_bounded : {A : Type 0} (body : BodyOf A) (tag : tags.Tag) → BoundedBody body → BoundedRun (constructed_at body tag)
constructed_bounded {A} body tag h = record {
  each = λ limit end scope o s same k.
      let Q : A × Spot → Type 0 = second limit end s.place in
      surely Q limit end (expect_at tag true o) _ (expect_sure tag true o) (λ u.
      Bounded-bind (StandsIn limit end s.place) Q limit end (extent_at scope s.place s.rest) _ (extent_bounded limit end scope s.place s.rest same k.short k.ends) (λ x l.
      weaken limit end s.place x.1.place (body x.0 x.1) l.spot.onward (h.each limit end x.0 x.1 l.same (own limit end s.place x.1 l.spot))));
}

-- each value has an octet at least, so that the turns are enough
module _ {S T : Type 0} (step : S → Scope → Opened → Spot → Reading (S × Spot)) (done : S → Option T) (h : (a : S) → BoundedRun (step a)) where
  item_bounded : (limit end turns : ℕ) (first : S) (scope : Scope) (from : ℕ) → scope.limit ≡ limit
      → ((next : S) (m : Spot) → Stands limit end (from + 1) m → Bounded (second limit end m.place) limit end (items_at step done turns next scope m)) → (a : Ahead) → Looked limit end from a
      → Bounded (second limit end from) limit end (item_at step done (λ next after. items_at step done turns next scope after) first scope a)
  item_bounded limit end turns first scope from same ih (ended place after) k = surely (second limit end from) limit end (finish place (done first)) _ (finish_sure place (done first)) (λ x. k)
  item_bounded limit end turns first scope from same ih (begun o t) k =
      let on : from + 1 ≤ t.place = k.onward in
      Bounded-bind (second limit end t.place) (second limit end from) limit end (step first scope o t) _ ((h first).each limit end scope o t same (own limit end (from + 1) t k)) (λ x l.
      let next : t.place ≤ x.1.place = l.onward in
      weaken limit end from x.1.place _ (omega arith) (ih x.0 x.1 (later limit end (from + 1) t.place x.1 on l)))

  items_bounded : (limit end turns : ℕ) (first : S) (scope : Scope) (s : Spot) → scope.limit ≡ limit → Stands limit end s.place s → length s.rest < turns → Bounded (second limit end s.place) limit end (items_at step done turns first scope s)
  unfolding items_at
  items_bounded limit end zero first scope s same k lt = absurd (omega arith)
  items_bounded limit end (suc turns) first scope s same k lt =
      let whole : s.place + length s.rest ≡ end = k.ends in
      Bounded-bind (Looked limit end s.place) (second limit end s.place) limit end (look_at scope s.place s.rest) _ (look_bounded limit end scope s.place s.rest same k.short k.ends) (λ a l.
      item_bounded limit end turns first scope s.place same (λ next m g.
      let all : m.place + length m.rest ≡ end = g.ends in
      let on : s.place + 1 ≤ m.place = g.onward in
      items_bounded limit end turns next scope m same (own limit end (s.place + 1) m g) (omega arith)) a l)

  pub all_bounded : (first : S) → BoundedBody (all_items_at step done first)
  all_bounded first = record { each = λ limit end scope s same k. items_bounded limit end (suc (length s.rest)) first scope s same k (omega arith) }

-- ---- strings and lists

abbrev some_gathered : Gathered → Option Gathered
some_gathered g = Some g

segment_bounded : (kind : StringKind) (depth : ℕ) (before : Gathered) → BoundedRun (segment_at kind depth before)
unfolding segment_at
segment_bounded kind zero before = record { each = λ limit end scope o s same k. tt }
segment_bounded kind (suc depth) before = record {
  each = λ limit end scope o s same k.
      Bounded-cond (second limit end s.place) limit end o.constructed _ _
      (λ t. (constructed_bounded (all_items_at (segment_at kind depth) some_gathered before) (segment_tag kind) (all_bounded (segment_at kind depth) some_gathered (λ a. segment_bounded kind depth a) before)).each limit end scope o s same k)
      (λ t. (prim_bounded (segment_rule kind before) always (segment_tag kind)).each limit end scope o s same k);
}

segmented_bounded : (kind : StringKind) (whole : Gathered → Option Value) (tag : tags.Tag) → BoundedRun (segmented_at kind whole tag)
unfolding segmented_at
segmented_bounded kind whole tag = record {
  each = λ limit end scope o s same k.
      let Q : Value × Spot → Type 0 = second limit end s.place in
      surely Q limit end (expect_at tag true o) _ (expect_sure tag true o) (λ u.
      surely Q limit end (form_at scope o.start.place false) _ (form_sure scope o.start.place false) (λ f.
      Bounded-bind (StandsIn limit end s.place) Q limit end (extent_at scope s.place s.rest) _ (extent_bounded limit end scope s.place s.rest same k.short k.ends) (λ x l.
      Bounded-bind (second limit end x.1.place) Q limit end (all_items_at (segment_at kind 32) some_gathered nothing x.0 x.1) _ ((all_bounded (segment_at kind 32) some_gathered (λ a. segment_bounded kind 32 a) nothing).each limit end x.0 x.1 l.same (own limit end s.place x.1 l.spot)) (λ g m.
      surely Q limit end (some_or_refuse o.start.place (λ (v : Value). v) (whole g.0)) _ (judge_sure o.start.place (λ (v : Value). v) (whole g.0)) (λ v. later limit end s.place x.1.place g.1 l.spot.onward m)))));
}

string_bounded : (kind : StringKind) (whole : Gathered → Option Value) (canonical : List ℕ → Bool) (tag : tags.Tag) → BoundedRun (string_at kind whole canonical tag)
unfolding string_at
string_bounded kind whole canonical tag = record {
  each = λ limit end scope o s same k.
      Bounded-cond (second limit end s.place) limit end o.constructed _ _
      (λ t. (segmented_bounded kind whole tag).each limit end scope o s same k)
      (λ t. (prim_bounded (string_rule kind whole) canonical tag).each limit end scope o s same k);
}

list_step_bounded : (inner : Reader) → BoundedRun (inner plain) → (before : List Value) → BoundedRun (list_item_at inner before)
list_step_bounded inner h before = record {
  each = λ limit end scope o s same k. Bounded-bind (second limit end s.place) (second limit end s.place) limit end (inner plain scope o s) _ (h.each limit end scope o s same k) (λ v l. l);
}

list_bounded : (inner : Reader) (tag : tags.Tag) → BoundedRun (inner plain) → BoundedRun (list_at inner tag)
list_bounded inner tag h = constructed_bounded (all_items_at (list_item_at inner) list_done []) tag (all_bounded (list_item_at inner) list_done (λ a. list_step_bounded inner h a) [])

set_step_bounded : (spell : Value → List ℕ) (inner : Reader) → BoundedRun (inner plain) → (before : List Value) → BoundedRun (set_item_at spell inner before)
set_step_bounded spell inner h before = record {
  each = λ limit end scope o s same k.
      Bounded-bind (second limit end s.place) (second limit end s.place) limit end (inner plain scope o s) _ (h.each limit end scope o s same k) (λ v l.
      surely (second limit end s.place) limit end (form_at scope o.start.place (behind_last spell before v.0)) _ (form_sure scope o.start.place (behind_last spell before v.0)) (λ u. l));
}

set_of_bounded : (spell : Value → List ℕ) (inner : Reader) (tag : tags.Tag) → BoundedRun (inner plain) → BoundedRun (set_of_at spell inner tag)
set_of_bounded spell inner tag h = constructed_bounded (all_items_at (set_item_at spell inner) (set_of_done spell) []) tag (all_bounded (set_item_at spell inner) (set_of_done spell) (λ a. set_step_bounded spell inner h a) [])

-- ---- explicit tags

record Open (limit end from : ℕ) (x : Scope × Opened × Spot) : Type 0 where
  same : x.0.limit ≡ limit
  spot : Stands limit end from x.2

first_bounded : (a : Ahead) (limit end from : ℕ) → Looked limit end from a → Bounded (second limit end from) limit end (value_ahead a)
first_bounded (ended place after) limit end from k = tt
first_bounded (begun o s) limit end from k = later limit end from (from + 1) s (omega arith) k

last_bounded : (a : Ahead) (limit end from : ℕ) → Looked limit end from a → Bounded (Stands limit end from) limit end (end_ahead a)
last_bounded (ended place after) limit end from k = k
last_bounded (begun o s) limit end from k = tt

open_bounded : (tag : tags.Tag) (scope : Scope) (o : Opened) (s : Spot) (limit end : ℕ) → scope.limit ≡ limit → Stands limit end s.place s → Bounded (Open limit end s.place) limit end (open_at tag scope o s)
unfolding open_at
open_bounded tag scope o s limit end same k =
    let Q : Scope × Opened × Spot → Type 0 = Open limit end s.place in
    surely Q limit end (expect_at tag true o) _ (expect_sure tag true o) (λ u.
    Bounded-bind (StandsIn limit end s.place) Q limit end (extent_at scope s.place s.rest) _ (extent_bounded limit end scope s.place s.rest same k.short k.ends) (λ x l.
    Bounded-bind (Looked limit end x.1.place) Q limit end (look_at x.0 x.1.place x.1.rest) _ (look_bounded limit end x.0 x.1.place x.1.rest l.same l.spot.short l.spot.ends) (λ a m.
    Bounded-bind (second limit end x.1.place) Q limit end (value_ahead a) _ (first_bounded a limit end x.1.place m) (λ f n. record { same = l.same; spot = later limit end s.place x.1.place f.1 l.spot.onward n }))))

close_bounded : (scope : Scope) (s : Spot) (limit end : ℕ) → scope.limit ≡ limit → Stands limit end s.place s → Bounded (Stands limit end s.place) limit end (close_at scope s)
unfolding close_at
close_bounded scope s limit end same k =
    Bounded-bind (Looked limit end s.place) (Stands limit end s.place) limit end (look_at scope s.place s.rest) end_ahead (look_bounded limit end scope s.place s.rest same k.short k.ends) (λ a l. last_bounded a limit end s.place l)

explicit_bounded : (run : Run) (tag : tags.Tag) → BoundedRun run → BoundedRun (explicit_at run tag)
unfolding explicit_at
explicit_bounded run tag h = record {
  each = λ limit end scope o s same k.
      let Q : Value × Spot → Type 0 = second limit end s.place in
      Bounded-bind (Open limit end s.place) Q limit end (open_at tag scope o s) _ (open_bounded tag scope o s limit end same k) (λ x l.
      Bounded-bind (second limit end x.2.place) Q limit end (run x.0 x.1 x.2) _ (h.each limit end x.0 x.1 x.2 l.same (own limit end s.place x.2 l.spot)) (λ v m.
      Bounded-bind (Stands limit end v.1.place) Q limit end (close_at x.0 v.1) _ (close_bounded x.0 v.1 limit end l.same (own limit end x.2.place v.1 m)) (λ t n.
      later limit end s.place v.1.place t (let a : s.place ≤ x.2.place = l.spot.onward in let b : x.2.place ≤ v.1.place = m.onward in omega arith) n)));
}

or_bounded : (run : Run) (t : Option tags.Tag) → BoundedRun run → BoundedRun (or_explicit run t)
or_bounded run None h = h
or_bounded run (Some t) h = explicit_bounded run t h

-- ---- SEQUENCE, SET and CHOICE

-- what stands next was seen from here on
record Seen (limit end from : ℕ) (a : Ahead) : Type 0 where
  base : ℕ
  onward : from ≤ base
  looked : Looked limit end base a

module _ (begins : ℕ → Class → ℕ → Bool) (inner : ℕ → Reader) (h : (n : ℕ) (t : Guise) → BoundedRun (inner n t)) where
  abbrev ahead_of : ℕ → ℕ → ℕ → Option Value × Ahead → Type 0
  ahead_of limit end from x = Seen limit end from x.1

  present_bounded : (p : Part) (scope : Scope) (a : Ahead) (limit end from : ℕ) → scope.limit ≡ limit → Seen limit end from a → Bounded (ahead_of limit end from) limit end (present_at (inner p.inner.0) p scope a)
  present_bounded p scope (ended place after) limit end from same k = tt
  present_bounded p scope (begun o s) limit end from same k =
      let Q : Option Value × Ahead → Type 0 = ahead_of limit end from in
      let stands : Stands limit end (k.base + 1) s = k.looked in
      Bounded-bind (second limit end s.place) Q limit end (inner p.inner.0 (bare p.default) scope o s) _ ((h p.inner.0 (bare p.default)).each limit end scope o s same (own limit end (k.base + 1) s stands)) (λ v l.
      Bounded-bind (Looked limit end v.1.place) Q limit end (look_at scope v.1.place v.1.rest) _ (look_bounded limit end scope v.1.place v.1.rest same l.short l.ends) (λ a m.
      record { base = v.1.place; onward = (let x : from ≤ k.base = k.onward in let y : k.base + 1 ≤ s.place = stands.onward in let z : s.place ≤ v.1.place = l.onward in omega arith); looked = m }))

  part_bounded : (p : Part) (scope : Scope) (a : Ahead) (limit end from : ℕ) → scope.limit ≡ limit → Seen limit end from a → Bounded (ahead_of limit end from) limit end (part_at begins (inner p.inner.0) p scope a)
  unfolding part_at
  part_bounded p scope (ended place after) limit end from same k = Bounded-cond (ahead_of limit end from) limit end (may_be_absent p) _ _ (λ t. k) (λ t. tt)
  part_bounded p scope (begun o s) limit end from same k =
      Bounded-cond (ahead_of limit end from) limit end (begins p.inner.0 o.class o.number) _ _ (λ t. present_bounded p scope (begun o s) limit end from same k)
      (λ t. Bounded-cond (ahead_of limit end from) limit end (may_be_absent p) _ _ (λ t. k) (λ t. tt))

  seen_last : (a : Ahead) (limit end from : ℕ) → Seen limit end from a → Bounded (Stands limit end from) limit end (end_ahead a)
  seen_last (ended place after) limit end from k = later limit end from k.base after k.onward k.looked
  seen_last (begun o s) limit end from k = tt

  parts_bounded : (ps : List Part) (scope : Scope) (a : Ahead) (limit end from : ℕ) → scope.limit ≡ limit → Seen limit end from a → Bounded (second limit end from) limit end (parts_at begins inner scope a ps)
  unfolding parts_at
  parts_bounded [] scope a limit end from same k = Bounded-bind (Stands limit end from) (second limit end from) limit end (end_ahead a) _ (seen_last a limit end from k) (λ t m. m)
  parts_bounded (p ∷ ps) scope a limit end from same k =
      Bounded-bind (ahead_of limit end from) (second limit end from) limit end (part_at begins (inner p.inner.0) p scope a) _ (part_bounded p scope a limit end from same k) (λ x l.
      Bounded-bind (second limit end from) (second limit end from) limit end (parts_at begins inner scope x.1 ps) _ (parts_bounded ps scope x.1 limit end from same l) (λ y m. m))

  sequence_bounded : (ps : List Part) (tag : tags.Tag) → BoundedRun (sequence_at begins inner ps tag)
  unfolding sequence_at
  sequence_bounded ps tag = record {
    each = λ limit end scope o s same k.
        let Q : Value × Spot → Type 0 = second limit end s.place in
        surely Q limit end (expect_at tag true o) _ (expect_sure tag true o) (λ u.
        Bounded-bind (StandsIn limit end s.place) Q limit end (extent_at scope s.place s.rest) _ (extent_bounded limit end scope s.place s.rest same k.short k.ends) (λ x l.
        Bounded-bind (Looked limit end x.1.place) Q limit end (look_at x.0 x.1.place x.1.rest) _ (look_bounded limit end x.0 x.1.place x.1.rest l.same l.spot.short l.spot.ends) (λ a m.
        Bounded-bind (second limit end s.place) Q limit end (parts_at begins inner x.0 a ps) _ (parts_bounded ps x.0 a limit end s.place l.same (record { base = x.1.place; onward = l.spot.onward; looked = m })) (λ y n. n))));
  }

  ordered_bounded : (n : ℕ) (t : Guise) (least : ℕ) → BoundedRun (ordered_at (inner n t) least)
  ordered_bounded n t least = record {
    each = λ limit end scope o s same k. Bounded-cond (second limit end s.place) limit end (scope.strict && nat_lt (rank o.class o.number) least) _ _ (λ u. tt) (λ u. (h n t).each limit end scope o s same k);
  }

  fill_bounded : (n : ℕ) (t : Guise) (which : ℕ) (before : Filled) → BoundedRun (fill_at (inner n t) which before)
  fill_bounded n t which before = record {
    each = λ limit end scope o s same k.
        Bounded-cond (second limit end s.place) limit end (is_free (slice_get before.found which)) _ _
        (λ u. Bounded-bind (second limit end s.place) (second limit end s.place) limit end (ordered_at (inner n t) before.least scope o s) _ ((ordered_bounded n t before.least).each limit end scope o s same k) (λ v l. l))
        (λ u. tt);
  }

  slot_bounded : (which : ℕ) (ps : List Part) (before : Filled) → BoundedRun (slot_at begins inner which ps before)
  unfolding slot_at
  slot_bounded which [] before = record { each = λ limit end scope o s same k. tt }
  slot_bounded which (p ∷ ps) before = record {
    each = λ limit end scope o s same k.
        Bounded-cond (second limit end s.place) limit end (begins p.inner.0 o.class o.number) _ _
        (λ t. (fill_bounded p.inner.0 (bare p.default) which before).each limit end scope o s same k)
        (λ t. (slot_bounded (suc which) ps before).each limit end scope o s same k);
  }

  set_bounded : (ps : List Part) → BoundedBody (all_items_at (slot_at begins inner 0 ps) (set_done ps) (nothing_filled ps))
  set_bounded ps = all_bounded (slot_at begins inner 0 ps) (set_done ps) (λ before. slot_bounded 0 ps before) (nothing_filled ps)

  choice_bounded : (which : ℕ) (ps : List Part) → BoundedRun (choice_at begins inner which ps)
  unfolding choice_at
  choice_bounded which [] = record { each = λ limit end scope o s same k. tt }
  choice_bounded which (p ∷ ps) = record {
    each = λ limit end scope o s same k.
        Bounded-cond (second limit end s.place) limit end (begins p.inner.0 o.class o.number) _ _
        (λ t. Bounded-bind (second limit end s.place) (second limit end s.place) limit end (inner p.inner.0 plain scope o s) _ ((h p.inner.0 plain).each limit end scope o s same k) (λ v l. l))
        (λ t. (choice_bounded (suc which) ps).each limit end scope o s same k);
  }

-- ---- one whole value of any type

sized_bounded : (scope : Scope) (s : Spot) (limit end : ℕ) → scope.limit ≡ limit → Stands limit end s.place s → Bounded (second limit end s.place) limit end (sized_at scope s)
sized_bounded scope s limit end same k =
    Bounded-bind (third limit end s.place) (second limit end s.place) limit end (contents_at scope s.place s.rest) _ (contents_bounded limit end scope s.place s.rest same k.short k.ends) (λ c l. l)

marked_bounded : (body : Scope → Spot → Reading (Unit {0} × Spot)) → BoundedBody body → (scope : Scope) (s : Spot) (limit end : ℕ) → scope.limit ≡ limit → Stands limit end s.place s → Bounded (second limit end s.place) limit end (marked_at body scope s)
marked_bounded body h scope s limit end same k =
    Bounded-bind (StandsIn limit end s.place) (second limit end s.place) limit end (extent_at scope s.place s.rest) _ (extent_bounded limit end scope s.place s.rest same k.short k.ends) (λ x l.
    weaken limit end s.place x.1.place (body x.0 x.1) l.spot.onward (h.each limit end x.0 x.1 l.same (own limit end s.place x.1 l.spot)))

whole_bounded : (depth : ℕ) (before : Unit {0}) → BoundedRun (whole_at depth before)
unfolding whole_at
whole_bounded zero before = record { each = λ limit end scope o s same k. tt }
whole_bounded (suc inner) before = record {
  each = λ limit end scope o s same k.
      Bounded-cond (second limit end s.place) limit end (is_no_tag o.class o.number) _ _ (λ t. tt) (λ t.
      Bounded-cond (second limit end s.place) limit end (is_marked s.rest && o.constructed) _ _
      (λ t. marked_bounded (all_items_at (whole_at inner) (λ (u : Unit {0}). Some u) tt) (all_bounded (whole_at inner) (λ (u : Unit {0}). Some u) (λ a. whole_bounded inner a) tt) (anew (suc inner) scope) s limit end same k)
      (λ t. sized_bounded (anew (suc inner) scope) s limit end same k));
}

any_bounded : BoundedRun any_at
unfolding any_at
any_bounded = record {
  each = λ limit end scope o s same k. Bounded-bind (second limit end s.place) (second limit end s.place) limit end (whole_at 32 tt scope o s) _ ((whole_bounded 32 tt).each limit end scope o s same k) (λ w l. l);
}

-- ---- each row

dead_bounded : (t : Guise) → BoundedRun (dead t)
dead_bounded t = record { each = λ limit end scope o s same k. tt }

row_bounded : (begins : ℕ → Class → ℕ → Bool) (spell : ℕ → Value → List ℕ) (inner : ℕ → Reader) → ((n : ℕ) (t : Guise) → BoundedRun (inner n t)) → (r : TypeRow) (t : Guise) → BoundedRun (read_by begins spell inner r t)
row_bounded begins spell inner h row.Boolean t = prim_bounded boolean_rule (λ c. is_strict_boolean c && is_other t.default (boolean_rule c)) (tag_or t.tag Universal 1)
row_bounded begins spell inner h (row.Integer low high) t = prim_bounded (integer_rule low high) (λ c. is_other t.default (integer_rule low high c)) (tag_or t.tag Universal 2)
row_bounded begins spell inner h (row.Enumerated items) t = prim_bounded (enumerated_rule items) (λ c. is_other t.default (enumerated_rule items c)) (tag_or t.tag Universal 10)
row_bounded begins spell inner h row.Null t = prim_bounded null_rule always (tag_or t.tag Universal 5)
row_bounded begins spell inner h (row.OctetString most) t = string_bounded OfOctets (whole_octets most) always (tag_or t.tag Universal 4)
row_bounded begins spell inner h row.BitString t = string_bounded OfBits whole_bits has_zero_bits (tag_or t.tag Universal 3)
row_bounded begins spell inner h row.ObjectId t = prim_bounded object_id_rule always (tag_or t.tag Universal 6)
row_bounded begins spell inner h (row.Text kind) t = string_bounded OfOctets (whole_text kind) always (tag_or t.tag Universal (text_number kind))
row_bounded begins spell inner h (row.Sequence ps) t = sequence_bounded begins inner h ps (tag_or t.tag Universal 16)
row_bounded begins spell inner h (row.Set ps) t = constructed_bounded (all_items_at (slot_at begins inner 0 ps) (set_done ps) (nothing_filled ps)) (tag_or t.tag Universal 17) (set_bounded begins inner h ps)
row_bounded begins spell inner h (row.SequenceOf of) t = list_bounded (inner of.0) (tag_or t.tag Universal 16) (h of.0 plain)
row_bounded begins spell inner h (row.SetOf of) t = set_of_bounded (spell of.0) (inner of.0) (tag_or t.tag Universal 17) (h of.0 plain)
row_bounded begins spell inner h (row.Choice ps) t = or_bounded (choice_at begins inner 0 ps) t.tag (choice_bounded begins inner h 0 ps)
row_bounded begins spell inner h (row.Tagged class number true of) t = explicit_bounded (inner of.0 (bare t.default)) (tag_or t.tag class number) (h of.0 (bare t.default))
row_bounded begins spell inner h (row.Tagged class number false of) t = h of.0 (under (Some (tag_or t.tag class number)) t.default)
row_bounded begins spell inner h row.Any t = or_bounded any_at t.tag any_bounded

of_bounded : (begins : ℕ → Class → ℕ → Bool) (spell : ℕ → Value → List ℕ) (inner : ℕ → Reader) → ((n : ℕ) (t : Guise) → BoundedRun (inner n t)) → (o : Option TypeRow) (t : Guise) → BoundedRun (of_row dead (read_by begins spell inner) o t)
of_bounded begins spell inner h None t = dead_bounded t
of_bounded begins spell inner h (Some r) t = row_bounded begins spell inner h r t

pub along_bounded : (rows : List TypeRow) (turns n : ℕ) (t : Guise) → BoundedRun (along dead (read_by (begins rows) (written rows)) rows turns n t)
along_bounded rows zero n t = dead_bounded t
along_bounded rows (suc turns) n t = of_bounded (begins rows) (written rows) (along dead (read_by (begins rows) (written rows)) rows turns) (λ m u. along_bounded rows turns m u) (slice_get rows n) t
