-- Values one after the other, as loops read them.
use Rattle.std.proofs.Common.{◌≡◌, ℕ, zero, suc, ◌-◌, ◌<◌, Bool, true, false, ◌&&◌, cond, Option, Some, Ok, Err, refl, sym, ap, ◌∙◌, arith}
use Rattle.asn1_types.specs.Rows.{is_no_tag}
use Rattle.asn1_types.specs.Value.{Value}
use Rattle.asn1_types.specs.Whole.{is_marked}
use Rattle.ber_spelling.specs.declared.fault.ReadFault.{ReadFault}
use Rattle.ber_spelling.specs.declared.fault.ReadFault.TheVariants as faults
use Rattle.osi_base.specs.declared.layer_words.Kind.TheVariants.{Tag}
use Rattle.ber_spelling.specs.declared.spot.Scope.{Scope}
use Rattle.asn1_types.specs.declared.row.Tag as tags
use Rattle.ber_spelling.specs.declared.spot.StringKind.{StringKind}
use Rattle.ber_spelling.specs.declared.spot.Gathered.{Gathered}
use Rattle.ber_spelling.specs.Reading.{Spot, Opened, ended, begun, Reading, ◌>>=◌, FailsWith, refuse}
use Rattle.ber_spelling.specs.Fields.{extent_at, look_at}
use Rattle.ber_spelling.specs.Rules.{expect_at, some_or_refuse, form_at, item_at, items_at, all_items_at, constructed_at, primitive_at, always, segment_tag, nothing, segment_rule, segment_at, segmented_at, anew, sized_at, marked_at, whole_at}
use Rattle.ber_spelling.proofs.Steps.{FailsWith-bind, FailsWith-same}
use Rattle.ber_spelling.proofs.Steady.{form_passes}

module _ {S T : Type 0} (step : S → Scope → Opened → Spot → Reading (S × Spot)) (done : S → Option T) where
  pub turn_is : (k : ℕ) (first : S) (scope : Scope) (s : Spot) → 0 < k
      → items_at step done k first scope s ≡ (look_at scope s.place s.rest >>= λ a. item_at step done (λ next after. items_at step done (k - 1) next scope after) first scope a)
  unfolding items_at
  turn_is zero first scope s lt = absurd (omega arith)
  turn_is (suc k) first scope s lt = let less : suc k - 1 ≡ k = omega arith in rw less refl

  -- the invariant so far, and what is looked at fails
  pub look_fails : (e : ReadFault) (k : ℕ) (first : S) (scope : Scope) (s : Spot) (total : Reading (T × Spot)) → 0 < k → items_at step done k first scope s ≡ total → FailsWith e (look_at scope s.place s.rest) → FailsWith e total
  look_fails e k first scope s total lt so_far h = FailsWith-same e _ total (sym (turn_is k first scope s lt) ∙ so_far) (FailsWith-bind e (look_at scope s.place s.rest) _ h)

  pub step_fails : (e : ReadFault) (k : ℕ) (first : S) (scope : Scope) (s : Spot) (o : Opened) (t : Spot) (total : Reading (T × Spot)) → 0 < k → items_at step done k first scope s ≡ total → look_at scope s.place s.rest ≡ Ok (begun o t)
      → FailsWith e (step first scope o t) → FailsWith e total
  step_fails e k first scope s o t total lt so_far look h =
      let one : items_at step done k first scope s ≡ (step first scope o t >>= λ x. items_at step done (k - 1) x.0 scope x.1) = turn_is k first scope s lt ∙ rw look refl in
      FailsWith-same e _ total (sym one ∙ so_far) (FailsWith-bind e (step first scope o t) _ h)

  pub step_goes : (k : ℕ) (first next : S) (scope : Scope) (s : Spot) (o : Opened) (t after : Spot) (total : Reading (T × Spot)) → 0 < k → items_at step done k first scope s ≡ total → look_at scope s.place s.rest ≡ Ok (begun o t)
      → step first scope o t ≡ Ok (next, after) → items_at step done (k - 1) next scope after ≡ total
  step_goes k first next scope s o t after total lt so_far look e =
      let one : items_at step done k first scope s ≡ items_at step done (k - 1) next scope after = turn_is k first scope s lt ∙ rw (look, e) refl in
      sym one ∙ so_far

  pub turns_end : (first : S) (v : T) (scope : Scope) (s : Spot) (k place : ℕ) (after : Spot) (total : Reading (T × Spot)) → 0 < k → items_at step done k first scope s ≡ total → look_at scope s.place s.rest ≡ Ok (ended place after) → done first ≡ Some v → total ≡ Ok (v, after)
  turns_end first v scope s k place after total lt so_far look d = sym so_far ∙ turn_is k first scope s lt ∙ rw (look, d) refl

  pub no_turns : (k : ℕ) (first : S) (scope : Scope) (s : Spot) (total : Reading (T × Spot)) → k ≡ 0 → items_at step done k first scope s ≡ total → total ≡ Err faults.Short
  unfolding items_at
  no_turns k first scope s total none so_far = sym so_far ∙ ap (λ (n : ℕ). items_at step done n first scope s) none

-- ---- segments

pub segment_none : (kind : StringKind) (depth : ℕ) (before : Gathered) (scope : Scope) (o : Opened) (s : Spot) → depth ≡ 0 → segment_at kind depth before scope o s ≡ refuse o.start.place Tag
unfolding segment_at
segment_none kind depth before scope o s e = ap (λ (d : ℕ). segment_at kind d before scope o s) e

pub segment_some : (kind : StringKind) (depth : ℕ) (before : Gathered) (scope : Scope) (o : Opened) (s : Spot) (b : Bool) → 0 < depth → o.constructed ≡ b
    → cond b (constructed_at (all_items_at (segment_at kind (depth - 1)) (λ (g : Gathered). Some g) before) (segment_tag kind) scope o s) (primitive_at (segment_rule kind before) always (segment_tag kind) scope o s) ≡ segment_at kind depth before scope o s
unfolding segment_at
segment_some kind zero before scope o s b lt e = absurd (omega arith)
segment_some kind (suc depth) before scope o s b lt e = let less : suc depth - 1 ≡ depth = omega arith in rw (less, e) refl

pub bind_is : {A B : Type 0} (r : Reading A) (f : A → Reading B) (x : A) → r ≡ Ok x → (r >>= f) ≡ f x
bind_is r f x e = ap (λ y. y >>= f) e

pub segmented_gives : (kind : StringKind) (whole : Gathered → Option Value) (tag : tags.Tag) (scope x : Scope) (o : Opened) (s m after : Spot) (u : Unit {0}) (g : Gathered) → expect_at tag true o ≡ Ok u → scope.strict ≡ false
    → extent_at scope s.place s.rest ≡ Ok (x, m) → all_items_at (segment_at kind 32) (λ (h : Gathered). Some h) nothing x m ≡ Ok (g, after)
    → (some_or_refuse o.start.place (λ (v : Value). v) (whole g) >>= λ v. Ok (v, after)) ≡ segmented_at kind whole tag scope o s
unfolding segmented_at
segmented_gives kind whole tag scope x o s m after u g expected lax extent gathered =
    sym (bind_is (expect_at tag true o) _ u expected
    ∙ bind_is (form_at scope o.start.place false) _ tt (form_passes scope o.start.place false (λ s. absurd (let wrong : false ≡ true = sym lax ∙ s in cc)))
    ∙ bind_is (extent_at scope s.place s.rest) _ (x, m) extent
    ∙ bind_is (all_items_at (segment_at kind 32) (λ (h : Gathered). Some h) nothing x m) _ (g, after) gathered)

-- ---- whole values

pub whole_none : (levels : ℕ) (scope : Scope) (o : Opened) (s : Spot) → levels ≡ 0 → whole_at levels tt scope o s ≡ refuse o.start.place Tag
unfolding whole_at
whole_none zero scope o s e = refl
whole_none (suc levels) scope o s e = absurd (omega arith)

pub whole_no_tag : (levels : ℕ) (scope : Scope) (o : Opened) (s : Spot) → is_no_tag o.class o.number ≡ true → whole_at levels tt scope o s ≡ refuse o.start.place Tag
unfolding whole_at
whole_no_tag zero scope o s e = refl
whole_no_tag (suc levels) scope o s e = rw e refl

pub whole_marked : (levels : ℕ) (scope : Scope) (o : Opened) (s : Spot) → 0 < levels → is_no_tag o.class o.number ≡ false → is_marked s.rest ≡ true → o.constructed ≡ true
    → marked_at (all_items_at (whole_at (levels - 1)) (λ (u : Unit {0}). Some u) tt) (anew levels scope) s ≡ whole_at levels tt scope o s
unfolding whole_at
whole_marked zero scope o s lt t m c = absurd (omega arith)
whole_marked (suc levels) scope o s lt t m c = let less : suc levels - 1 ≡ levels = omega arith in rw (less, t, m, c) refl

pub whole_sized : (levels : ℕ) (scope : Scope) (o : Opened) (s : Spot) → 0 < levels → is_no_tag o.class o.number ≡ false → (is_marked s.rest && o.constructed) ≡ false → sized_at (anew levels scope) s ≡ whole_at levels tt scope o s
unfolding whole_at
whole_sized zero scope o s lt t m = absurd (omega arith)
whole_sized (suc levels) scope o s lt t m = rw (t, m) refl
