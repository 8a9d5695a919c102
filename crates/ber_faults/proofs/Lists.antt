-- SEQUENCE OF, SET OF and explicit tags: a fault of reading is one by the grammar, and the other way round (X.690 8.10, 8.12, 8.14).
use Rattle.std.proofs.Common.{◌≡◌, ℕ, ◌+◌, Bool, true, false, not, ◌&&◌, List, [], ◌∷◌, ◌++◌, length, Ok, Err, refl, sym, ap, ◌∙◌, subst, inl, inr}
use Rattle.std.proofs.lemmas.Bool.{and_parts}
use Rattle.osi_base.specs.declared.layer_words.Kind.TheVariants.{Missing, Extra, Form}
use Rattle.asn1_types.specs.declared.row.Class.{Class}
use Rattle.asn1_types.specs.declared.row.Tag as tags
use Rattle.asn1_types.specs.Rising.{behind_last}
use Rattle.asn1_types.specs.Value.{Value}
use Rattle.ber_spelling.specs.declared.fault.ReadFault.{ReadFault}
use Rattle.ber_spelling.specs.declared.fault.ReadFault.TheVariants.{Short}
use Rattle.ber_spelling.specs.declared.spot.Scope.{Scope}
use Rattle.osi_base.specs.Octets.{AreOctets}
use Rattle.ber_spelling.specs.Reading.{Spot, Opened, Ahead, ended, begun, Reading, ◌>>=◌, refuse}
use Rattle.ber_spelling.specs.Fields.{identifier_at, look_at}
use Rattle.ber_spelling.specs.Rules.{Reader, form_at, plain, all_items_at, list_item_at, list_done, set_item_at, set_of_done, value_ahead, end_ahead, close_at, explicit_at}
use Rattle.ber_spelling.specs.Spelling.{Spelled, ListStep, SetItemStep}
use Rattle.ber_spelling.proofs.Identifiers.{IsIn, bind_ok, ok_is, done}
use Rattle.ber_spelling.proofs.Steady.{Run, Relation, ReadAs, Found, Only, form_ok, form_passes, taken_octets}
use Rattle.ber_spelling.proofs.Constructed.{explicit_body, explicit_same}
use Rattle.ber_faults.specs.Fields.{Stands}
use Rattle.ber_faults.specs.Values.{Wrong, WrongAs, IsAt, ListFault, SetItemFault, SetOfFault, CloseFault, OneFault, ExplicitFault}
use Rattle.ber_faults.proofs.Steps.{bind_err, bind_fails, bind_goes, cond_err, cond_yes, failed, not_err}
use Rattle.ber_faults.proofs.Identifiers.{opens_read}
use Rattle.ber_faults.proofs.Ends.{look_err, look_fails, begins_found, begins_read, ends_found, ends_read}
use Rattle.ber_faults.proofs.Readers.{Finds, Tells, StepFinds, StepTells, BodyFinds, BodyTells, step_finds, step_tells, refused, refusal_is, constructed_finds, constructed_tells}
use Rattle.ber_faults.proofs.Items.{stands_of, reads_on, all_finds, all_tells}

not_true : (b : Bool) → not b ≡ true → b ≡ false
not_true true e = absurd cc
not_true false e = refl

strict_and_not : (s m : Bool) → s ≡ true → m ≡ false → (s && not m) ≡ true
strict_and_not true true e h = absurd cc
strict_and_not true false e h = refl
strict_and_not false m e h = absurd cc

-- ---- SEQUENCE OF

abbrev and_item : List Value → Value × Spot → Reading (List Value × Spot)
and_item before v = done {A = List Value × Spot} (before ++ v.0 ∷ [], v.1)

list_step_found : (inner : Reader) (rel : Spelled) → Found (inner plain) (rel plain) → (before : List Value) → Found (list_item_at inner before) (ListStep rel before)
list_step_found inner rel h before = record {
  found = λ scope place rest o s vs to are opens e.
      let b = bind_ok (inner plain scope o s) (and_item before) (vs, to) e in
      let same = ok_is {A = List Value × Spot} (before ++ b.0.0 ∷ [], b.0.1) (vs, to) b.2 in
      let r = h.found scope place rest o s b.0.0 b.0.1 are opens b.1 in
      subst (λ (y : List Value × Spot). ReadAs (ListStep rel before) scope place rest y.0 y.1) same (record { text = r.text; taken = r.taken; spelled = (b.0.0, refl, r.spelled); is_in = r.is_in });
}

list_step_only : (B : Class → ℕ → Type 0) (inner : Reader) (rel : Spelled) → Only B (inner plain) (rel plain) → (before : List Value) → Only B (list_item_at inner before) (ListStep rel before)
list_step_only B inner rel h before = record {
  only = λ scope place vs text rest p here.
      let r = h.only scope place p.0 text rest p.2 here in
      record {
        opened = r.opened;
        spot = r.spot;
        first = r.first;
        others = r.others;
        begins = r.begins;
        some = r.some;
        opens = r.opens;
        allowed = r.allowed;
        reads = bind_goes (inner plain scope r.opened r.spot) (and_item before) _ _ r.reads (ap (λ (y : List Value). done {A = List Value × Spot} (y, record { place = place + length text; rest = rest })) (sym p.1));
      };
}

list_step_finds : (inner : Reader) (W : WrongAs) → Finds (inner plain) (W plain) → (before : List Value) → StepFinds (list_item_at inner before) (W plain)
list_step_finds inner W h before = record {
  finds = λ scope at o s f ne are begins e.
      elim (bind_err (inner plain scope o s) (and_item before) f e) [
        | inl t ↦ (step_finds (inner plain) (W plain) h).finds scope at o s f ne are begins t
        | inr t ↦ absurd (not_err {A = List Value × Spot} (before ++ t.0.0 ∷ [], t.0.1) f t.2)
      ];
}

list_step_tells : (inner : Reader) (W : WrongAs) → Tells (inner plain) (W plain) → (before : List Value) → StepTells (list_item_at inner before) (W plain)
list_step_tells inner W h before = record { tells = λ scope at o s f are begins w. bind_fails (inner plain scope o s) (and_item before) f ((step_tells (inner plain) (W plain) h).tells scope at o s f are begins w) }

pub list_finds : (inner : Reader) (rel : Spelled) (W : WrongAs) → Found (inner plain) (rel plain) → Finds (inner plain) (W plain) → BodyFinds (all_items_at (list_item_at inner) list_done []) (ListFault rel W)
list_finds inner rel W found h = all_finds (list_item_at inner) list_done (ListStep rel) (λ before. W plain) (list_step_found inner rel found) (list_step_finds inner W h) []

pub list_tells : (B : Class → ℕ → Type 0) (inner : Reader) (rel : Spelled) (W : WrongAs) → Only B (inner plain) (rel plain) → Tells (inner plain) (W plain) → BodyTells (all_items_at (list_item_at inner) list_done []) (ListFault rel W)
list_tells B inner rel W only h = all_tells (list_item_at inner) list_done (ListStep rel) (λ before. W plain) B (list_step_only B inner rel only) (list_step_tells inner W h) []

-- ---- SET OF

abbrev in_order : (Value → List ℕ) → List Value → Scope → ℕ → Value × Spot → Reading (List Value × Spot)
in_order spell before scope place v = form_at scope place (behind_last spell before v.0) >>= λ _. done {A = List Value × Spot} (before ++ v.0 ∷ [], v.1)

module _ (spell : Value → List ℕ) (inner : Reader) (rel : Spelled) (W : WrongAs) where
  set_step_found : Found (inner plain) (rel plain) → (before : List Value) → Found (set_item_at spell inner before) (SetItemStep spell rel before)
  set_step_found h before = record {
    found = λ scope place rest o s vs to are opens e.
        let b = bind_ok (inner plain scope o s) (in_order spell before scope o.start.place) (vs, to) e in
        let f = bind_ok (form_at scope o.start.place (behind_last spell before b.0.0)) (λ _. done {A = List Value × Spot} (before ++ b.0.0 ∷ [], b.0.1)) (vs, to) b.2 in
        let same = ok_is {A = List Value × Spot} (before ++ b.0.0 ∷ [], b.0.1) (vs, to) f.2 in
        let r = h.found scope place rest o s b.0.0 b.0.1 are opens b.1 in
        subst (λ (y : List Value × Spot). ReadAs (SetItemStep spell rel before) scope place rest y.0 y.1) same (record {
          text = r.text;
          taken = r.taken;
          spelled = (b.0.0, refl, r.spelled, form_ok scope o.start.place (behind_last spell before b.0.0) f.0 f.1);
          is_in = r.is_in;
        });
  }

  set_step_only : (B : Class → ℕ → Type 0) → Only B (inner plain) (rel plain) → (before : List Value) → Only B (set_item_at spell inner before) (SetItemStep spell rel before)
  set_step_only B h before = record {
    only = λ scope place vs text rest p here.
        let r = h.only scope place p.0 text rest p.2 here in
        record {
          opened = r.opened;
          spot = r.spot;
          first = r.first;
          others = r.others;
          begins = r.begins;
          some = r.some;
          opens = r.opens;
          allowed = r.allowed;
          reads = bind_goes (inner plain scope r.opened r.spot) (in_order spell before scope r.opened.start.place) _ _ r.reads
              (bind_goes (form_at scope r.opened.start.place (behind_last spell before p.0)) (λ _. done {A = List Value × Spot} (before ++ p.0 ∷ [], record { place = place + length text; rest = rest })) tt _ (form_passes scope r.opened.start.place (behind_last spell before p.0) p.3)
              (ap (λ (y : List Value). done {A = List Value × Spot} (y, record { place = place + length text; rest = rest })) (sym p.1)));
        };
  }

  set_step_finds : Found (inner plain) (rel plain) → Finds (inner plain) (W plain) → (before : List Value) → StepFinds (set_item_at spell inner before) (SetItemFault spell rel W before)
  set_step_finds found h before = record {
    finds = λ scope at o s f ne are begins e.
        elim (bind_err (inner plain scope o s) (in_order spell before scope o.start.place) f e) [
          | inl t ↦ inl ((step_finds (inner plain) (W plain) h).finds scope at o s f ne are begins t)
          | inr t ↦ elim (bind_err (form_at scope o.start.place (behind_last spell before t.0.0)) (λ _. done {A = List Value × Spot} (before ++ t.0.0 ∷ [], t.0.1)) f t.2) [
            | inl u ↦ elim (cond_err (scope.strict && not (behind_last spell before t.0.0)) (refuse o.start.place Form) (Ok tt) f u) [
              | inl w ↦
                  let b = and_parts scope.strict (not (behind_last spell before t.0.0)) w.0 in
                  let r = found.found scope at.place at.rest o s t.0.0 t.0.1 are (opens_read scope at.place at.rest o s begins.opens) t.1 in
                  let stands : Stands (rel plain) scope o.start t.0.0 t.0.1 = subst (λ (y : Spot). Stands (rel plain) scope y t.0.0 t.0.1) (sym begins.opens.starts) (stands_of (rel plain) scope at t.0.0 t.0.1 r) in
                  inr (b.0, t.0.0, t.0.1, stands, not_true (behind_last spell before t.0.0) b.1, refusal_is {A = Unit {0}} o.start.place Form f w.1)
              | inr w ↦ absurd (not_err tt f w.1)
            ]
            | inr u ↦ absurd (not_err {A = List Value × Spot} (before ++ t.0.0 ∷ [], t.0.1) f u.2)
          ]
        ];
  }

  set_step_tells : (B : Class → ℕ → Type 0) → Only B (inner plain) (rel plain) → Tells (inner plain) (W plain) → (before : List Value) → StepTells (set_item_at spell inner before) (SetItemFault spell rel W before)
  set_step_tells B only h before = record {
    tells = λ scope at o s f are begins w.
        elim w [
          | inl t ↦ bind_fails (inner plain scope o s) (in_order spell before scope o.start.place) f ((step_tells (inner plain) (W plain) h).tells scope at o s f are begins t)
          | inr t ↦
              let r = reads_on B (inner plain) (rel plain) only scope o.start t.1 t.2 t.3 in
              let opens : identifier_at scope o.start.place o.start.rest ≡ Ok (o, s) = subst (λ (y : Spot). identifier_at scope y.place y.rest ≡ Ok (o, s)) (sym begins.opens.starts) (opens_read scope at.place at.rest o s begins.opens) in
              let same = ok_is {A = Opened × Spot} (r.opened, r.spot) (o, s) (sym r.opens ∙ opens) in
              let reads : inner plain scope o s ≡ Ok (t.1, t.2) = subst (λ (y : Opened × Spot). inner plain scope y.0 y.1 ≡ Ok (t.1, t.2)) same r.reads in
              bind_goes (inner plain scope o s) (in_order spell before scope o.start.place) (t.1, t.2) (failed f) reads
              (bind_fails (form_at scope o.start.place (behind_last spell before t.1)) (λ _. done {A = List Value × Spot} (before ++ t.1 ∷ [], t.2)) f
              (cond_yes (scope.strict && not (behind_last spell before t.1)) _ _ _ (strict_and_not scope.strict (behind_last spell before t.1) t.0 t.4) (refused {A = Unit {0}} o.start.place Form f t.5)))
        ];
  }

  pub set_of_finds : Found (inner plain) (rel plain) → Finds (inner plain) (W plain) → BodyFinds (all_items_at (set_item_at spell inner) (set_of_done spell) []) (SetOfFault spell rel W)
  set_of_finds found h = all_finds (set_item_at spell inner) (set_of_done spell) (SetItemStep spell rel) (SetItemFault spell rel W) (set_step_found found) (set_step_finds found h) []

  pub set_of_tells : (B : Class → ℕ → Type 0) → Only B (inner plain) (rel plain) → Tells (inner plain) (W plain) → BodyTells (all_items_at (set_item_at spell inner) (set_of_done spell) []) (SetOfFault spell rel W)
  set_of_tells B only h = all_tells (set_item_at spell inner) (set_of_done spell) (SetItemStep spell rel) (SetItemFault spell rel W) B (set_step_only B only) (set_step_tells B only h) []

-- ---- an explicit tag

close_err : (x : Scope) (to : Spot) (f : ReadFault) → (f ≡ Short → ⊥) → AreOctets to.rest → IsIn x to.place → close_at x to ≡ Err f → CloseFault x to f
unfolding close_at
close_err x to f ne are here e =
    elim (bind_err (look_at x to.place to.rest) end_ahead f e) [
      | inl t ↦ inl (look_err x to.place to.rest f ne are t)
      | inr t ↦ by_ahead t.0 t.1 t.2
    ]
  where
    by_ahead : (a : Ahead) → look_at x to.place to.rest ≡ Ok a → end_ahead a ≡ Err f → CloseFault x to f
    by_ahead (ended p b) look g = absurd (not_err b f g)
    by_ahead (begun o s) look g =
        let begins = begins_found x to o s are here look in
        inr (o, s, begins, subst (λ (y : Spot). IsAt y.place Extra f) begins.opens.starts (refusal_is {A = Spot} o.start.place Extra f g))

close_fails : (x : Scope) (to : Spot) (f : ReadFault) → CloseFault x to f → close_at x to ≡ Err f
unfolding close_at
close_fails x to f (inl c) = bind_fails (look_at x to.place to.rest) end_ahead f (look_fails x to.place to.rest f c)
close_fails x to f (inr c) =
    let begins = c.2 in
    bind_goes (look_at x to.place to.rest) end_ahead (begun c.0 c.1) (failed f) (begins_read x to c.0 c.1 begins)
    (refused {A = Spot} c.0.start.place Extra f (subst (λ (y : Spot). IsAt y.place Extra f) (sym begins.opens.starts) c.3))

module _ (run : Run) (P : Relation) (W : Wrong) where
  abbrev closed : Scope → Value × Spot → Reading (Value × Spot)
  closed x v = close_at x v.1 >>= λ after. done {A = Value × Spot} (v.0, after)

  abbrev opened : Scope → Ahead → Reading (Value × Spot)
  opened x a = value_ahead a >>= λ f. run x f.0 f.1 >>= closed x

  one_err : Found run P → Finds run W → (x : Scope) (b : Spot) (f : ReadFault) → (f ≡ Short → ⊥) → AreOctets b.rest → IsIn x b.place → (a : Ahead) → look_at x b.place b.rest ≡ Ok a → opened x a ≡ Err f → OneFault P W x b f
  one_err found h x b f ne are here (ended p after) look e =
      let y = ends_found x b p after here look in
      inr (inl (after, y.1, subst (λ (q : ℕ). IsAt q Missing f) y.0 (refusal_is {A = Value × Spot} p Missing f e)))
  one_err found h x b f ne are here (begun o s) look e =
      let begins = begins_found x b o s are here look in
      inr (inr (elim (bind_err (run x o s) (closed x) f e) [
        | inl t ↦ inl (o, s, begins, (step_finds run W h).finds x b o s f ne are begins t)
        | inr t ↦
            let r = found.found x b.place b.rest o s t.0.0 t.0.1 are (opens_read x b.place b.rest o s begins.opens) t.1 in
            inr (
              t.0.0,
              t.0.1,
              stands_of P x b t.0.0 t.0.1 r,
              elim (bind_err (close_at x t.0.1) (λ after. done {A = Value × Spot} (t.0.0, after)) f t.2) [
                | inl u ↦ close_err x t.0.1 f ne (taken_octets b.place b.rest r.text t.0.1 r.taken are) r.is_in u
                | inr u ↦ absurd (not_err {A = Value × Spot} (t.0.0, u.0) f u.2)
              ],
            )
      ]))

  one_finds : Found run P → Finds run W → BodyFinds (explicit_body run) (OneFault P W)
  one_finds found h = record {
    finds = λ x b f ne are here e.
        elim (bind_err (look_at x b.place b.rest) (opened x) f e) [
          | inl t ↦ inl (look_err x b.place b.rest f ne are t)
          | inr t ↦ one_err found h x b f ne are here t.0 t.1 t.2
        ];
  }

  one_tells : (B : Class → ℕ → Type 0) → Only B run P → Tells run W → BodyTells (explicit_body run) (OneFault P W)
  one_tells B only h = record {
    tells = λ x b f are w.
        elim w [
          | inl c ↦ bind_fails (look_at x b.place b.rest) (opened x) f (look_fails x b.place b.rest f c)
          | inr v ↦ elim v [
            | inl c ↦ bind_goes (look_at x b.place b.rest) (opened x) (ended b.place c.0) (failed f) (ends_read x b c.0 c.1) (refused {A = Value × Spot} b.place Missing f c.2)
            | inr u ↦ elim u [
              | inl c ↦ bind_goes (look_at x b.place b.rest) (opened x) (begun c.0 c.1) (failed f) (begins_read x b c.0 c.1 c.2)
                  (bind_fails (run x c.0 c.1) (closed x) f ((step_tells run W h).tells x b c.0 c.1 f are c.2 c.3))
              | inr c ↦
                  let r = reads_on B run P only x b c.0 c.1 c.2 in
                  bind_goes (look_at x b.place b.rest) (opened x) (begun r.opened r.spot) (failed f) r.looks
                  (bind_goes (run x r.opened r.spot) (closed x) (c.0, c.1) (failed f) r.reads (bind_fails (close_at x c.1) (λ after. done {A = Value × Spot} (c.0, after)) f (close_fails x c.1 f c.3)))
            ]
          ]
        ];
  }

  pub explicit_finds : (tag : tags.Tag) → Found run P → Finds run W → Finds (explicit_at run tag) (ExplicitFault tag P W)
  explicit_finds tag found h = subst (λ (r : Run). Finds r (ExplicitFault tag P W)) (explicit_same run tag) (constructed_finds (explicit_body run) tag (OneFault P W) (one_finds found h))

  pub explicit_tells : (tag : tags.Tag) (B : Class → ℕ → Type 0) → Only B run P → Tells run W → Tells (explicit_at run tag) (ExplicitFault tag P W)
  explicit_tells tag B only h = subst (λ (r : Run). Tells r (ExplicitFault tag P W)) (explicit_same run tag) (constructed_tells (explicit_body run) tag (OneFault P W) (one_tells B only h))
