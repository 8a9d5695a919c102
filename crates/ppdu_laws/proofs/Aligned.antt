-- Parts of a row of the table as fields: some fields have no part, and user data has a data value at least.
use Rattle.std.proofs.Common.{◌≡◌, ℕ, ◌+◌, ◌<◌, Bool, true, false, ◌||◌, List, [], ◌∷◌, ◌++◌, Option, Some, None, refl, sym, ap, ◌∙◌, subst, arith, inl, inr}
use Rattle.asn1_types.specs.declared.row.Class.{Class}
use Rattle.asn1_types.specs.declared.row.Part.{Part}
use Rattle.asn1_types.specs.Rows.{openings, tag}
use Rattle.asn1_types.specs.Value.{Value, parts, list}
use Rattle.asn1_types.specs.ValueView.{parts_of, values_of}
use Rattle.std.specs.Prelude.{codes}
use Rattle.asn1_types.specs.declared.row.Class.TheVariants.{Application}
use Rattle.asn1_types.specs.FixedRows.{part}
use Rattle.ber_spelling.specs.Rules.{plain, list_done}
use Rattle.ber_spelling.specs.Spelling.{IsConstructed, PartIs, PartsAre, SequenceIs, ListIs, ListStep, SpelledBy}
use Rattle.passed_fields.specs.declared.field.Field as known
use Rattle.passed_fields.specs.declared.field.Passed as over
use Rattle.passed_fields.specs.declared.field.Holds.{Holds}
use Rattle.passed_fields.specs.declared.field.Holds.TheVariants as holds
use Rattle.passed_fields.specs.Reading.{tag_of, some_done}
use Rattle.passed_fields.specs.Spelling.{HasTag, SomeItems, HeldIs, FieldsAre}
use Rattle.passed_fields.proofs.MoreTurns.{constructed_more, steps_more, turns_more}
use Rattle.passed_fields.proofs.PlainFields.{spelled_tag, FieldsStand, stand_are}
use Rattle.presentation_pdus.specs.Rows.{ppdu_rows}
use Rattle.presentation_pdus.specs.Fields.{user_tag, user_field}
use Rattle.presentation_pdus.proofs.Added.{ppdu_sound}

-- a list that has an item, where a field asks for one
abbrev pub CanHold : Holds → Value → Type 0
CanHold (holds.Row of) v = Unit {0}
CanHold holds.Any v = Unit {0}
CanHold (holds.Some of) v = (first : Value) × (others : List Value) × (v ≡ list (values_of (first ∷ others)))

-- a part whose values are those of a field
abbrev pub IsPart : known.Field → Part → Type 0
IsPart f p =
    (name : List ℕ) × (n : ℕ) × (p ≡ part name n f.optional)
    × ((levels : ℕ) (v : Value) (s : List ℕ) → CanHold f.holds v → SpelledBy ppdu_rows 64 n plain false levels v s → HasTag f.class f.number s × HeldIs ppdu_rows (tag_of f) f.holds false levels v s)

-- which fields have a part
abbrev pub AreParts : List Bool → List known.Field → List Part → Type 0
AreParts [] [] [] = Unit {0}
AreParts (true ∷ ms) (f ∷ fs) (p ∷ ps) = IsPart f p × AreParts ms fs ps
AreParts (false ∷ ms) (f ∷ fs) ps = (f.optional ≡ true) × AreParts ms fs ps
AreParts ms fs ps = ⊥

-- values with those that have no part
abbrev pub inserted : List Bool → List (Option Value) → List (Option Value)
inserted [] os = []
inserted (false ∷ ms) os = None ∷ inserted ms os
inserted (true ∷ ms) [] = []
inserted (true ∷ ms) (o ∷ os) = o ∷ inserted ms os

abbrev pub CanHoldAll : List Bool → List known.Field → List (Option Value) → Type 0
CanHoldAll (true ∷ ms) (f ∷ fs) (o ∷ os) = ((v : Value) → o ≡ Some v → CanHold f.holds v) × CanHoldAll ms fs os
CanHoldAll (false ∷ ms) (f ∷ fs) os = CanHoldAll ms fs os
CanHoldAll ms fs os = Unit {0}

off : (b : Bool) → (b || false) ≡ true → b ≡ true
off true e = refl
off false e = absurd cc

module _ (turns more : ℕ) (all : turns + more ≡ 64) (levels : ℕ) where
  absent_may : (name : List ℕ) (n : ℕ) (optional : Bool) (s : List ℕ) → PartIs (SpelledBy ppdu_rows turns n) false levels (part name n optional) None s → (optional ≡ true) × (s ≡ [])
  absent_may name n optional s (inl a) = (off optional a.0, a.2)
  absent_may name n optional s (inr a) = absurd (let wrong : Some a.0 ≡ None = a.1 in cc)

  present_is : (name : List ℕ) (n : ℕ) (optional : Bool) (v : Value) (s : List ℕ) → PartIs (SpelledBy ppdu_rows turns n) false levels (part name n optional) (Some v) s → SpelledBy ppdu_rows 64 n plain false levels v s
  present_is name n optional v s (inl a) = absurd (let wrong : Some v ≡ None = a.1 in cc)
  present_is name n optional v s (inr a) =
      let same : a.0 ≡ v = cc in
      subst (λ (k : ℕ). SpelledBy ppdu_rows k n plain false levels v s) all (turns_more ppdu_rows more turns n plain false levels v s (subst (λ (w : Value). SpelledBy ppdu_rows turns n plain false levels w s) same a.2))

  stand : (ms : List Bool) (fs : List known.Field) (ps : List Part) (os : List (Option Value)) (contents : List ℕ) → AreParts ms fs ps → CanHoldAll ms fs os → PartsAre (SpelledBy ppdu_rows turns) false levels ps (parts_of os) contents
      → FieldsStand ppdu_rows ppdu_sound false levels fs (inserted ms os) contents
  stand [] [] [] [] contents a h p = p
  stand [] [] [] (None ∷ os) contents a h p = absurd p
  stand [] [] [] (Some v ∷ os) contents a h p = absurd p
  stand [] [] (q ∷ ps) os contents a h p = absurd a
  stand [] (f ∷ fs) ps os contents a h p = absurd a
  stand (true ∷ ms) [] ps os contents a h p = absurd a
  stand (true ∷ ms) (f ∷ fs) [] os contents a h p = absurd a
  stand (true ∷ ms) (f ∷ fs) (q ∷ ps) [] contents a h p = absurd p
  stand (true ∷ ms) (f ∷ fs) (q ∷ ps) (None ∷ os) contents a h p =
      let i = a.0 in
      let here : PartIs (SpelledBy ppdu_rows turns i.1) false levels (part i.0 i.1 f.optional) None p.0 = subst (λ (x : Part). PartIs (SpelledBy ppdu_rows turns x.inner.0) false levels x None p.0) i.2 p.3 in
      let m = absent_may i.0 i.1 f.optional p.0 here in
      let same : p.1 ≡ contents = sym (p.2 ∙ ap (λ (x : List ℕ). x ++ p.1) m.1) in
      (m.0, subst (λ (x : List ℕ). FieldsStand ppdu_rows ppdu_sound false levels fs (inserted ms os) x) same (stand ms fs ps os p.1 a.1 h.1 p.4))
  stand (true ∷ ms) (f ∷ fs) (q ∷ ps) (Some v ∷ os) contents a h p =
      let i = a.0 in
      let here : PartIs (SpelledBy ppdu_rows turns i.1) false levels (part i.0 i.1 f.optional) (Some v) p.0 = subst (λ (x : Part). PartIs (SpelledBy ppdu_rows turns x.inner.0) false levels x (Some v) p.0) i.2 p.3 in
      let b = i.3 levels v p.0 (h.0 v refl) (present_is i.0 i.1 f.optional v p.0 here) in
      (p.0, p.1, p.2, b.0, b.1, stand ms fs ps os p.1 a.1 h.1 p.4)
  stand (false ∷ ms) [] ps os contents a h p = absurd a
  stand (false ∷ ms) (f ∷ fs) ps os contents a h p = (a.0, stand ms fs ps os contents a.1 h p)

  pub aligned : (passed : List over.Passed) (ms : List Bool) (fs : List known.Field) (ps : List Part) (os : List (Option Value)) (contents : List ℕ) → AreParts ms fs ps → CanHoldAll ms fs os → SequenceIs (SpelledBy ppdu_rows turns) false ps (parts (parts_of os)) levels contents
      → FieldsAre ppdu_rows fs passed false levels (parts (parts_of (inserted ms os))) contents
  aligned passed ms fs ps os contents a h p = stand_are ppdu_rows ppdu_sound fs passed false levels (inserted ms os) contents (stand ms fs ps os contents a h p)

-- ---- parts of rows, and user data

pub row_part : (name : List ℕ) (class : Class) (number n : ℕ) (optional : Bool) → openings ppdu_rows n ≡ tag class number ∷ [] → number < 31 → IsPart (record { class = class; number = number; holds = holds.Row (record { 0 = n }); optional = optional }) (part name n optional)
row_part name class number n optional o low = (name, n, refl, λ levels v s h p. (spelled_tag ppdu_rows ppdu_sound n class number o low false levels v s p, p))

opens_user : openings ppdu_rows 16 ≡ tag Application 1 ∷ []
unfolding openings
opens_user = refl

-- a list that has an item
some_is : (x : Value) (xs last : List Value) (v : Value) → v ≡ list (values_of (x ∷ xs)) → list_done last ≡ Some v → some_done last ≡ Some v
some_is x xs [] v e d = absurd (let same : list (values_of []) ≡ v = cc in let wrong : list (values_of []) ≡ list (values_of (x ∷ xs)) = same ∙ e in cc)
some_is x xs (y ∷ ys) v e d = d

pub user_held : (levels : ℕ) (v : Value) (s : List ℕ) → CanHold (holds.Some (record { 0 = 14 })) v → SpelledBy ppdu_rows 64 16 plain false levels v s → IsConstructed user_tag false levels (λ inner c. SomeItems ppdu_rows 14 false inner v c) s
user_held levels v s h p =
    constructed_more user_tag false levels (λ l c. ListIs (SpelledBy ppdu_rows 62 14) false v l c) (λ l c. SomeItems ppdu_rows 14 false l v c)
    (λ l c q. (q.0, some_is h.0 h.1 q.0 v h.2 q.1, q.2, steps_more (λ a b t. ListStep (SpelledBy ppdu_rows 62 14) a false l b t) (λ a b t. ListStep (SpelledBy ppdu_rows 64 14) a false l b t) (λ a b t w. (w.0, w.1, turns_more ppdu_rows 2 62 14 plain false l w.0 t w.2)) q.2 [] q.0 c q.3)) s p

pub user_part : IsPart user_field (part (codes "user") 16 true)
user_part = (codes "user", 16, refl, λ levels v s h p. (spelled_tag ppdu_rows ppdu_sound 16 Application 1 opens_user (omega arith) false levels v s p, user_held levels v s h p))
