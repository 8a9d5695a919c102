-- The slots of a SET, as loops go over them.
use Rattle.std.proofs.Common.{◌≡◌, ℕ, zero, suc, ◌+◌, ◌<◌, ◌≤◌, Bool, true, false, ◌&&◌, List, [], ◌∷◌, ◌++◌, length, take, drop, get_or, Option, Some, None, Ok, Err, refl, sym, ap, ◌∙◌, subst, arith, add-one}
use Rattle.std.specs.Prelude.{slice_get, slice_set}
use Rattle.std.proofs.lemmas.List.{append-nil, drop_all, take_all}
use Rattle.asn1_types.specs.declared.row.Part.{Part}
use Rattle.asn1_types.specs.Value.{Value}
use Rattle.osi_base.specs.declared.layer_words.Kind.{Kind}
use Rattle.osi_base.specs.declared.layer_words.Kind.TheVariants.{Missing, Extra}
use Rattle.asn1_types.specs.declared.row.Class.{Class}
use Rattle.asn1_types.specs.Value.{parts}
use Rattle.asn1_types.specs.ValueView.{parts_of}
use Rattle.ber_spelling.specs.declared.fault.ReadFault.{ReadFault}
use Rattle.ber_spelling.specs.declared.fault.ReadFault.TheVariants as faults
use Rattle.ber_spelling.specs.declared.spot.Scope.{Scope}
use Rattle.ber_spelling.specs.Reading.{Spot, Opened, Reading, ◌>>=◌, ended, refuse, FailsWith}
use Rattle.ber_spelling.specs.Fields.{look_at}
use Rattle.ber_spelling.specs.Order.{Filled}
use Rattle.ber_spelling.specs.Rules.{Reader, items_at, stands, is_filled, set_done, is_free, ordered_at, filled_by, fill_at, slot_at, bare, kept_of, settled, late_at, late_kind, alone, cut_behind}
use Rattle.ber_spelling.proofs.Steps.{FailsWith-bind, FailsWith-same}
use Rattle.ber_spelling.proofs.Turns.{turn_is}

filled_next : (ps : List Part) (vs : List (Option Value)) (i : ℕ) (p : Part) (o : Option Value) → i < length ps → i < length vs → p ≡ get_or ps i p → o ≡ get_or vs i o
    → is_filled (drop i ps) (drop i vs) ≡ (stands p o && is_filled (drop (suc i) ps) (drop (suc i) vs))
filled_next [] vs i p o lt more e d = absurd (omega arith)
filled_next (q ∷ ps) [] i p o lt more e d = absurd (omega arith)
filled_next (q ∷ ps) (w ∷ vs) zero p o lt more e d = rw (e, d) refl
filled_next (q ∷ ps) (w ∷ vs) (suc i) p o lt more e d = filled_next ps vs i p o (omega arith) (omega arith) e d

pub filled_step : (ps : List Part) (vs : List (Option Value)) (i : ℕ) (p : Part) (o : Option Value) (b total : Bool) → i < length ps → i < length vs → p ≡ get_or ps i p → o ≡ get_or vs i o → stands p o ≡ b
    → is_filled (drop i ps) (drop i vs) ≡ total → (b && is_filled (drop (i + 1) ps) (drop (i + 1) vs)) ≡ total
filled_step ps vs i p o b total lt more e d s h =
    rw add-one (ap (λ (c : Bool). c && is_filled (drop (suc i) ps) (drop (suc i) vs)) (sym s) ∙ sym (filled_next ps vs i p o lt more e d) ∙ h)

pub filled_none : (ps : List Part) (vs : List (Option Value)) (i : ℕ) (total : Bool) → length ps ≡ i → is_filled (drop i ps) (drop i vs) ≡ total → true ≡ total
filled_none ps vs i total e h = sym (by_end ps (drop i vs) i e) ∙ h
  where
    by_end : (ps : List Part) (ws : List (Option Value)) (i : ℕ) → length ps ≡ i → is_filled (drop i ps) ws ≡ true
    by_end ps ws i e = ap (λ (n : ℕ). is_filled (drop n ps) ws) (sym e) ∙ drop_all ps ws
      where
        drop_all : (ps : List Part) (ws : List (Option Value)) → is_filled (drop (length ps) ps) ws ≡ true
        drop_all [] ws = refl
        drop_all (q ∷ ps) ws = drop_all ps ws

pub set_length : (vs : List (Option Value)) (i : ℕ) (o : Option Value) → length (slice_set vs i o) ≡ length vs
set_length [] zero o = refl
set_length [] (suc i) o = refl
set_length (v ∷ vs) zero o = refl
set_length (v ∷ vs) (suc i) o = ap suc (set_length vs i o)

-- ---- the slot of a part

pub slot_is : (vs : List (Option Value)) (i : ℕ) (o : Option Value) → i < length vs → o ≡ get_or vs i o → slice_get vs i ≡ Some o
slot_is [] i o lt e = absurd (omega arith)
slot_is (w ∷ vs) zero o lt e = ap (λ (x : Option Value). Some x) (sym e)
slot_is (w ∷ vs) (suc i) o lt e = slot_is vs i o (omega arith) e

module _ (begins : ℕ → Class → ℕ → Bool) (inner : ℕ → Reader) where
  at_slot : (ps : List Part) (i which : ℕ) (p : Part) (before : Filled) (scope : Scope) (o : Opened) (s : Spot) → i < length ps → p ≡ get_or ps i p → begins p.inner.0 o.class o.number ≡ true
      → slot_at begins inner which (drop i ps) before scope o s ≡ fill_at (inner p.inner.0 (bare p.default)) which before scope o s
  unfolding slot_at
  at_slot [] i which p before scope o s lt e b = absurd (omega arith)
  at_slot (q ∷ ps) zero which p before scope o s lt e b =
      let same : q ≡ p = sym e in
      rw (same, b) refl
  at_slot (q ∷ ps) (suc i) which p before scope o s lt e b = at_slot ps i which p before scope o s (omega arith) e b

  -- the slot is taken
  pub slot_taken : (ps : List Part) (which : ℕ) (p : Part) (w : Option Value) (before : Filled) (scope : Scope) (o : Opened) (s : Spot) (total : Reading (Filled × Spot)) → which < length ps → p ≡ get_or ps which p → begins p.inner.0 o.class o.number ≡ true
      → which < length before.found → w ≡ get_or before.found which w → is_free (Some w) ≡ false
      → slot_at begins inner which (drop which ps) before scope o s ≡ total → total ≡ late_at Extra (inner p.inner.0 (bare p.default)) scope o s
  slot_taken ps which p w before scope o s total lt e b more d taken so_far =
      let slot : slice_get before.found which ≡ Some w = slot_is before.found which w more d in
      sym so_far ∙ at_slot ps which which p before scope o s lt e b ∙ rw (slot, taken) refl

  pub slot_fails : (f : ReadFault) (ps : List Part) (which : ℕ) (p : Part) (w : Option Value) (before : Filled) (scope : Scope) (o : Opened) (s : Spot) (total : Reading (Filled × Spot)) → which < length ps → p ≡ get_or ps which p → begins p.inner.0 o.class o.number ≡ true
      → which < length before.found → w ≡ get_or before.found which w → is_free (Some w) ≡ true
      → slot_at begins inner which (drop which ps) before scope o s ≡ total → FailsWith f (ordered_at (inner p.inner.0 (bare p.default)) before.least scope o s) → FailsWith f total
  slot_fails f ps which p w before scope o s total lt e b more d free so_far h =
      let slot : slice_get before.found which ≡ Some w = slot_is before.found which w more d in
      let one : (ordered_at (inner p.inner.0 (bare p.default)) before.least scope o s >>= λ v. Ok (filled_by which o before v.0, v.1)) ≡ total = rw (← so_far) (sym (at_slot ps which which p before scope o s lt e b ∙ rw (slot, free) refl)) in
      FailsWith-same f _ total one (FailsWith-bind f (ordered_at (inner p.inner.0 (bare p.default)) before.least scope o s) _ h)

  pub slot_gives : (ps : List Part) (which : ℕ) (p : Part) (w : Option Value) (before : Filled) (scope : Scope) (o : Opened) (s : Spot) (v : Value) (to : Spot) (total : Reading (Filled × Spot)) → which < length ps → p ≡ get_or ps which p → begins p.inner.0 o.class o.number ≡ true
      → which < length before.found → w ≡ get_or before.found which w → is_free (Some w) ≡ true
      → slot_at begins inner which (drop which ps) before scope o s ≡ total → ordered_at (inner p.inner.0 (bare p.default)) before.least scope o s ≡ Ok (v, to) → total ≡ Ok (filled_by which o before v, to)
  slot_gives ps which p w before scope o s v to total lt e b more d free so_far h =
      let slot : slice_get before.found which ≡ Some w = slot_is before.found which w more d in
      sym so_far ∙ at_slot ps which which p before scope o s lt e b ∙ rw (slot, free, h) refl

-- ---- all slots

pub set_full : (ps : List Part) (s : Filled) → is_filled ps s.found ≡ true → set_done ps s ≡ Some (parts (parts_of (settled ps s.found)))
set_full ps s e = rw e refl

pub set_lacks : (ps : List Part) (s : Filled) → is_filled ps s.found ≡ false → set_done ps s ≡ None
set_lacks ps s e = rw e refl

pub turns_lack : {S T : Type 0} (step : S → Scope → Opened → Spot → Reading (S × Spot)) (done : S → Option T) (first : S) (scope : Scope) (s : Spot) (k place : ℕ) (after : Spot) (total : Reading (T × Spot)) → 0 < k → items_at step done k first scope s ≡ total
    → look_at scope s.place s.rest ≡ Ok (ended place after) → done first ≡ None → total ≡ refuse place Missing
turns_lack step done first scope s k place after total lt so_far look d = sym so_far ∙ turn_is step done k first scope s lt ∙ rw (look, d) refl

-- parts that have their default's value become absent one after the other
pub settle_next : (ps : List Part) (vs : List (Option Value)) (i : ℕ) (p : Part) (o new : Option Value) (total : List (Option Value)) → i < length ps → length vs ≡ length ps → p ≡ get_or ps i p → o ≡ get_or vs i o → new ≡ kept_of p o
    → take i vs ++ settled (drop i ps) (drop i vs) ≡ total → take (i + 1) (slice_set vs i new) ++ settled (drop (i + 1) ps) (drop (i + 1) (slice_set vs i new)) ≡ total
settle_next [] vs i p o new total lt same at slot e h = absurd (omega arith)
settle_next (q ∷ ps) [] i p o new total lt same at slot e h = absurd (omega arith)
settle_next (q ∷ ps) (w ∷ vs) zero p o new total lt same at slot e h = rw (e, at, slot) h
settle_next (q ∷ ps) (w ∷ vs) (suc i) p o new [] lt same at slot e h = absurd cc
settle_next (q ∷ ps) (w ∷ vs) (suc i) p o new (t ∷ total) lt same at slot e h =
    let tail : take i vs ++ settled (drop i ps) (drop i vs) ≡ total = cc in
    let head : w ≡ t = cc in
    let next : i + 1 ≡ suc i = omega arith in
    let outer : suc (suc i) ≡ suc i + 1 = omega arith in
    let behind = subst (λ (k : ℕ). take k (slice_set vs i new) ++ settled (drop k ps) (drop k (slice_set vs i new)) ≡ total) next (settle_next ps vs i p o new total (omega arith) (omega arith) at slot e tail) in
    subst (λ (k : ℕ). take k (slice_set (w ∷ vs) (suc i) new) ++ settled (drop k (q ∷ ps)) (drop k (slice_set (w ∷ vs) (suc i) new)) ≡ t ∷ total) outer (λ j. head j ∷ behind j)

pub settle_end : (ps : List Part) (vs : List (Option Value)) (i : ℕ) (total : List (Option Value)) → length ps ≤ i → length vs ≡ length ps → take i vs ++ settled (drop i ps) (drop i vs) ≡ total → vs ≡ total
settle_end ps vs i total past same h = sym (rw (drop_all i ps past, take_all i vs (omega arith), append-nil vs) refl) ∙ h

-- a part that comes twice fails as its identifier alone does
pub late_fails : (e : ReadFault) (run : Scope → Opened → Spot → Reading (Value × Spot)) (kind : Kind) (scope : Scope) (o : Opened) (s : Spot) (total : Reading (Filled × Spot)) → total ≡ late_at kind run scope o s → FailsWith e (late_at {A = Unit {0}} kind run scope o s) → FailsWith e total
late_fails (faults.NotSpelled place k) run kind scope o s total same h = same ∙ moved h
  where
    moved : late_at {A = Unit {0}} kind run scope o s ≡ Err (faults.NotSpelled place k) → late_at {A = Filled × Spot} kind run scope o s ≡ Err (faults.NotSpelled place k)
    moved e = let fault : ◌≡◌ {A = ReadFault} (faults.NotSpelled o.start.place (late_kind kind (run scope (alone o s) (cut_behind s)))) (faults.NotSpelled place k) = cc in ap (λ (f : ReadFault). Err f) fault
late_fails faults.Short run kind scope o s total same h = absurd cc
late_fails (faults.TooDeep place) run kind scope o s total same h = absurd cc
late_fails (faults.TooLong place) run kind scope o s total same h = absurd cc
late_fails faults.NoMemory run kind scope o s total same h = tt
