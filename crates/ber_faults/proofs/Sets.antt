-- SET: a fault of reading is one by the grammar, and the other way round (X.690 8.11, 10.3).
use Rattle.std.proofs.Common.{◌≡◌, ℕ, suc, ◌+◌, Bool, true, false, ◌&&◌, List, [], ◌∷◌, Option, Ok, Err, refl, sym, ap, ◌∙◌, subst, arith, ◌⊎◌, inl, inr, ℤ}
use Rattle.std.specs.Prelude.{slice_get, nat_lt}
use Rattle.std.proofs.lemmas.Bool.{and_parts}
use Rattle.osi_base.specs.declared.layer_words.Kind.{Kind}
use Rattle.osi_base.specs.declared.layer_words.Kind.TheVariants.{Tag, Missing, Extra, Length, Content, Form}
use Rattle.asn1_types.specs.declared.row.Class.{Class}
use Rattle.asn1_types.specs.declared.row.Part.{Part}
use Rattle.asn1_types.specs.Rows.{Opening}
use Rattle.asn1_types.specs.Table.{clash, agrees_later}
use Rattle.asn1_types.specs.Tags.{rank}
use Rattle.asn1_types.specs.Value.{Value}
use Rattle.ber_spelling.specs.declared.fault.ReadFault.{ReadFault}
use Rattle.ber_spelling.specs.declared.fault.ReadFault.TheVariants.{NotSpelled, Short, TooDeep, TooLong, NoMemory}
use Rattle.ber_spelling.specs.declared.spot.Scope.{Scope}
use Rattle.ber_spelling.specs.Order.{Filled}
use Rattle.ber_spelling.specs.Reading.{Spot, Opened, Reading}
use Rattle.ber_spelling.specs.Rules.{Reader, all_items_at, late_kind, late_at, ordered_at, is_free, filled_by, fill_at, slot_at, set_done, nothing_filled, Guise, bare}
use Rattle.ber_spelling.specs.Spelling.{Spelled, SetStep}
use Rattle.ber_spelling.proofs.Identifiers.{IsIn, done}
use Rattle.ber_spelling.proofs.Steady.{Run, Found, Only}
use Rattle.ber_spelling.proofs.Distinct.{begins_by, AnyAllows}
use Rattle.ber_spelling.proofs.Heads.{AreHeaded}
use Rattle.ber_faults.specs.Values.{Wrong, WrongAs, IsAt, IsWrongAlone, LateFault, FillFault, SlotFault, SetFault, alone, nothing_behind}
use Rattle.ber_faults.proofs.Steps.{bind_err, bind_fails, cond_err, cond_yes, cond_no, failed, err_is, not_err}
use Rattle.ber_faults.proofs.Readers.{Finds, Tells, BodyFinds, BodyTells, step_finds, step_tells, refused, refusal_is}
use Rattle.ber_faults.proofs.Alone.{TellsAlone, no_octets}
use Rattle.ber_faults.proofs.Items.{all_finds, all_tells}
use Rattle.ber_spelling.proofs.Sets.{slot_found, slot_only}

-- ---- a part that may not stand here

abbrev IsTagFault : Reading (Value × Spot) → Type 0
IsTagFault r = (place : ℕ) × (r ≡ Err (NotSpelled place Tag))

other_fault : (f : ReadFault) (place : ℕ) → failed {A = Value × Spot} f ≡ Err (NotSpelled place Tag) → f ≡ NotSpelled place Tag
other_fault f place e = err_is {A = Value × Spot} f (NotSpelled place Tag) e

late_cases : (kind : Kind) (r : Reading (Value × Spot)) → (IsTagFault r × (late_kind kind r ≡ Tag)) ⊎ ((IsTagFault r → ⊥) × (late_kind kind r ≡ kind))
late_cases kind (Ok x) = inr (λ t. not_err x (NotSpelled t.0 Tag) t.1, refl)
late_cases kind (Err (NotSpelled place Tag)) = inl ((place, refl), refl)
late_cases kind (Err (NotSpelled place Missing)) = inr (λ t. let wrong = other_fault (NotSpelled place Missing) t.0 t.1 in cc, refl)
late_cases kind (Err (NotSpelled place Extra)) = inr (λ t. let wrong = other_fault (NotSpelled place Extra) t.0 t.1 in cc, refl)
late_cases kind (Err (NotSpelled place Length)) = inr (λ t. let wrong = other_fault (NotSpelled place Length) t.0 t.1 in cc, refl)
late_cases kind (Err (NotSpelled place Content)) = inr (λ t. let wrong = other_fault (NotSpelled place Content) t.0 t.1 in cc, refl)
late_cases kind (Err (NotSpelled place Form)) = inr (λ t. let wrong = other_fault (NotSpelled place Form) t.0 t.1 in cc, refl)
late_cases kind (Err Short) = inr (λ t. let wrong = other_fault Short t.0 t.1 in cc, refl)
late_cases kind (Err (TooDeep place)) = inr (λ t. let wrong = other_fault (TooDeep place) t.0 t.1 in cc, refl)
late_cases kind (Err (TooLong place)) = inr (λ t. let wrong = other_fault (TooLong place) t.0 t.1 in cc, refl)
late_cases kind (Err NoMemory) = inr (λ t. let wrong = other_fault NoMemory t.0 t.1 in cc, refl)

abbrev read_alone : Run → Scope → Opened → Spot → Reading (Value × Spot)
read_alone run scope o s = run scope (alone o s) (nothing_behind s)

module _ (run : Run) (W : Wrong) (finds : Finds run W) (single : TellsAlone run W) (scope : Scope) (o : Opened) (s : Spot) (here : IsIn scope s.place) where
  tag_wrong : IsTagFault (read_alone run scope o s) → IsWrongAlone W scope o s
  tag_wrong t = (t.0, finds.finds scope (alone o s) (nothing_behind s) (NotSpelled t.0 Tag) (λ e. cc) no_octets here t.1)

  wrong_tag : IsWrongAlone W scope o s → IsTagFault (read_alone run scope o s)
  wrong_tag w = (w.0, single.alone scope (alone o s) (nothing_behind s) w.0 refl here w.1)

module _ {A : Type 0} (run : Run) (W : Wrong) (finds : Finds run W) (single : TellsAlone run W) (scope : Scope) (o : Opened) (s : Spot) (here : IsIn scope s.place) where
  late_err : (kind : Kind) (f : ReadFault) → late_at {A = A} kind run scope o s ≡ Err f → LateFault kind W scope o s f
  late_err kind f e =
      let is = refusal_is {A = A} o.start.place (late_kind kind (read_alone run scope o s)) f e in
      elim (late_cases kind (read_alone run scope o s)) [
        | inl t ↦ inl (tag_wrong run W finds single scope o s here t.0, subst (λ (k : Kind). IsAt o.start.place k f) t.1 is)
        | inr t ↦ inr (λ w. t.0 (wrong_tag run W finds single scope o s here w), subst (λ (k : Kind). IsAt o.start.place k f) t.1 is)
      ]

  late_fails : (kind : Kind) (f : ReadFault) → LateFault kind W scope o s f → late_at {A = A} kind run scope o s ≡ Err f
  late_fails kind f w =
      elim (late_cases kind (read_alone run scope o s)) [
        | inl t ↦ elim w [
          | inl u ↦ refused {A = A} o.start.place (late_kind kind (read_alone run scope o s)) f (subst (λ (k : Kind). IsAt o.start.place k f) (sym t.1) u.1)
          | inr u ↦ absurd (u.0 (tag_wrong run W finds single scope o s here t.0))
        ]
        | inr t ↦ elim w [
          | inl u ↦ absurd (t.0 (wrong_tag run W finds single scope o s here u.0))
          | inr u ↦ refused {A = A} o.start.place (late_kind kind (read_alone run scope o s)) f (subst (λ (k : Kind). IsAt o.start.place k f) (sym t.1) u.1)
        ]
      ]

-- ---- a part in its slot

not_late : (strict : Bool) (b : Bool) → (strict && b) ≡ false → strict ≡ true → b ≡ false
not_late true b e k = e
not_late false b e k = absurd cc

late_so : (strict : Bool) (b : Bool) → strict ≡ true → b ≡ true → (strict && b) ≡ true
late_so true b e k = k
late_so false b e k = absurd cc

in_turn : (strict : Bool) (b : Bool) → (strict ≡ true → b ≡ false) → (strict && b) ≡ false
in_turn true b h = h refl
in_turn false b h = refl

module _ (run : Run) (W : Wrong) (finds : Finds run W) (single : TellsAlone run W) (which : ℕ) (before : Filled) where
  abbrev and_filled : Opened → Value × Spot → Reading (Filled × Spot)
  and_filled o v = done {A = Filled × Spot} (filled_by which o before v.0, v.1)

  fill_finds : Finds (fill_at run which before) (FillFault W which before)
  fill_finds = record {
    finds = λ scope o s f ne are here e.
        elim (cond_err (is_free (slice_get before.found which)) _ _ f e) [
          | inl t ↦ inr (
            t.0,
            elim (bind_err (ordered_at run before.least scope o s) (and_filled o) f t.1) [
              | inl u ↦ elim (cond_err (scope.strict && nat_lt (rank o.class o.number) before.least) _ _ f u) [
                | inl w ↦ let b = and_parts scope.strict (nat_lt (rank o.class o.number) before.least) w.0 in inl (b.0, b.1, late_err {A = Value × Spot} run W finds single scope o s here Form f w.1)
                | inr w ↦ inr (not_late scope.strict (nat_lt (rank o.class o.number) before.least) w.0, finds.finds scope o s f ne are here w.1)
              ]
              | inr u ↦ absurd (not_err {A = Filled × Spot} (filled_by which o before u.0.0, u.0.1) f u.2)
            ],
          )
          | inr t ↦ inl (t.0, late_err {A = Filled × Spot} run W finds single scope o s here Extra f t.1)
        ];
  }

  fill_tells : Tells run W → Tells (fill_at run which before) (FillFault W which before)
  fill_tells tells = record {
    tells = λ scope o s f are here w.
        elim w [
          | inl t ↦ cond_no (is_free (slice_get before.found which)) _ _ _ t.0 (late_fails {A = Filled × Spot} run W finds single scope o s here Extra f t.1)
          | inr t ↦ cond_yes (is_free (slice_get before.found which)) _ _ _ t.0 (bind_fails (ordered_at run before.least scope o s) (and_filled o) f (elim t.1 [
            | inl u ↦ cond_yes (scope.strict && nat_lt (rank o.class o.number) before.least) _ _ _ (late_so scope.strict (nat_lt (rank o.class o.number) before.least) u.0 u.1) (late_fails {A = Value × Spot} run W finds single scope o s here Form f u.2)
            | inr u ↦ cond_no (scope.strict && nat_lt (rank o.class o.number) before.least) _ _ _ (in_turn scope.strict (nat_lt (rank o.class o.number) before.least) u.0) (tells.tells scope o s f are here u.1)
          ]))
        ];
  }

module _ (begins : ℕ → Class → ℕ → Bool) (inner : ℕ → Reader) (rel : ℕ → Spelled) (W : ℕ → WrongAs) (finds : (n : ℕ) (t : Guise) → Finds (inner n t) (W n t)) (single : (n : ℕ) (t : Guise) → TellsAlone (inner n t) (W n t)) where
  slot_finds : (which : ℕ) (ps : List Part) (before : Filled) → Finds (slot_at begins inner which ps before) (SlotFault begins W which ps before)
  unfolding slot_at
  slot_finds which [] before = record { finds = λ scope o s f ne are here e. refusal_is {A = Filled × Spot} o.start.place Extra f e }
  slot_finds which (p ∷ ps) before = record {
    finds = λ scope o s f ne are here e.
        elim (cond_err (begins p.inner.0 o.class o.number) _ _ f e) [
          | inl t ↦ inl (t.0, (fill_finds (inner p.inner.0 (bare p.default)) (W p.inner.0 (bare p.default)) (finds p.inner.0 (bare p.default)) (single p.inner.0 (bare p.default)) which before).finds scope o s f ne are here t.1)
          | inr t ↦ inr (t.0, (slot_finds (suc which) ps before).finds scope o s f ne are here t.1)
        ];
  }

  slot_tells : ((n : ℕ) (t : Guise) → Tells (inner n t) (W n t)) → (which : ℕ) (ps : List Part) (before : Filled) → Tells (slot_at begins inner which ps before) (SlotFault begins W which ps before)
  unfolding slot_at
  slot_tells tells which [] before = record { tells = λ scope o s f are here w. refused {A = Filled × Spot} o.start.place Extra f w }
  slot_tells tells which (p ∷ ps) before = record {
    tells = λ scope o s f are here w.
        elim w [
          | inl t ↦ cond_yes (begins p.inner.0 o.class o.number) _ _ _ t.0 ((fill_tells (inner p.inner.0 (bare p.default)) (W p.inner.0 (bare p.default)) (finds p.inner.0 (bare p.default)) (single p.inner.0 (bare p.default)) which before (tells p.inner.0 (bare p.default))).tells scope o s f are here t.1)
          | inr t ↦ cond_no (begins p.inner.0 o.class o.number) _ _ _ t.0 ((slot_tells tells (suc which) ps before).tells scope o s f are here t.1)
        ];
  }

  pub set_finds : ((n : ℕ) (t : Guise) → Found (inner n t) (rel n t)) → ((n : ℕ) → AreHeaded (rel n)) → (ps : List Part) → BodyFinds (all_items_at (slot_at begins inner 0 ps) (set_done ps) (nothing_filled ps)) (SetFault begins rel W ps)
  set_finds found heads ps =
      all_finds (slot_at begins inner 0 ps) (set_done ps) (SetStep rel ps) (SlotFault begins W 0 ps)
      (λ before. slot_found begins inner rel found heads ps ps 0 before (λ i p e. let none : 0 + i ≡ i = omega arith in ap (slice_get ps) none ∙ e))
      (λ before. step_finds (slot_at begins inner 0 ps before) (SlotFault begins W 0 ps before) (slot_finds 0 ps before)) (nothing_filled ps)

module _ (openings : ℕ → List Opening) (inner : ℕ → Reader) (rel : ℕ → Spelled) (W : ℕ → WrongAs) (finds : (n : ℕ) (t : Guise) → Finds (inner n t) (W n t)) (single : (n : ℕ) (t : Guise) → TellsAlone (inner n t) (W n t)) (tells : (n : ℕ) (t : Guise) → Tells (inner n t) (W n t)) where
  pub set_tells : ((n : ℕ) (d : Option ℤ) → Only (λ c k. begins_by openings n c k ≡ true) (inner n (bare d)) (rel n (bare d))) → ((n : ℕ) → AreHeaded (rel n)) → (ps : List Part) → agrees_later (clash openings) ps ≡ false
      → BodyTells (all_items_at (slot_at (begins_by openings) inner 0 ps) (set_done ps) (nothing_filled ps)) (SetFault (begins_by openings) rel W ps)
  set_tells only heads ps apart =
      all_tells (slot_at (begins_by openings) inner 0 ps) (set_done ps) (SetStep rel ps) (SlotFault (begins_by openings) W 0 ps) (AnyAllows openings ps)
      (λ before. slot_only openings inner rel only heads ps apart before)
      (λ before. step_tells (slot_at (begins_by openings) inner 0 ps before) (SlotFault (begins_by openings) W 0 ps before) (slot_tells (begins_by openings) inner rel W finds single tells 0 ps before)) (nothing_filled ps)
