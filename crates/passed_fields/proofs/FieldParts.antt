-- Fields of which none is passed over are parts of a SEQUENCE, one after the other.
use Rattle.std.proofs.Common.{◌≡◌, ℕ, zero, suc, ◌+◌, ◌-◌, ◌<◌, Bool, true, false, cond, ◌||◌, List, [], ◌∷◌, ◌++◌, length, take, drop, Option, Some, None, refl, sym, ap, ◌∙◌, subst, arith, append_assoc, length-append, inl, inr}
use Rattle.std.specs.Prelude.{slice_get}
use Rattle.std.proofs.lemmas.Bool.{and_parts}
use Rattle.std.proofs.lemmas.List.{drop-drop, length-drop}
use Rattle.asn1_types.specs.declared.row.Part.{Part}
use Rattle.asn1_types.specs.declared.row.TypeRow.{TypeRow}
use Rattle.asn1_types.specs.Defaults.{may_be_absent, kept}
use Rattle.asn1_types.specs.Table.{AreSoundRows}
use Rattle.asn1_types.specs.Value.{Value, parts}
use Rattle.asn1_types.specs.ValueView.{parts_of}
use Rattle.asn1_types.specs.FixedRows.{part}
use Rattle.ber_spelling.specs.Rules.{plain, bare}
use Rattle.ber_spelling.specs.Spelling.{PartsAre, SequenceIs, Steps, SpelledBy}
use Rattle.passed_fields.specs.declared.field.Field as known
use Rattle.passed_fields.specs.declared.field.Holds.{Holds}
use Rattle.passed_fields.specs.declared.field.Holds.TheVariants as holds
use Rattle.passed_fields.specs.Passing.{are_optional, nones}
use Rattle.passed_fields.specs.Reading.{tag_of, fields_done}
use Rattle.passed_fields.specs.Spelling.{HasTag, HeldIs, KnownStep, FieldStep, FieldsAre}
use Rattle.passed_fields.proofs.MoreTurns.{turns_fewer}
use Rattle.passed_fields.proofs.PlainFields.{FieldsStand}

module _ (rows : List TypeRow) (sound : AreSoundRows rows) where
  -- ---- one field after the other

  module _ (strict : Bool) (levels : ℕ) where
    abbrev Stand : List known.Field → List (Option Value) → List ℕ → Type 0
    Stand fs vs contents = FieldsStand rows sound strict levels fs vs contents

    none_stands : (fs : List known.Field) → are_optional fs ≡ true → Stand fs (nones (length fs)) []
    none_stands [] e = refl
    none_stands (f ∷ fs) e = let p = and_parts f.optional (are_optional fs) e in (p.0, none_stands fs p.1)

    -- a field behind those that don't stand
    behind_none : (next : List known.Field) (absent : ℕ) (f : known.Field) (v : Value) (vs : List (Option Value)) (first others : List ℕ) → slice_get next absent ≡ Some f → are_optional (take absent next) ≡ true → HasTag f.class f.number first → HeldIs rows (tag_of f) f.holds strict levels v first → Stand (drop (suc absent) next) vs others
        → Stand next (nones absent ++ (Some v ∷ vs)) (first ++ others)
    behind_none [] absent f v vs first others lies may tag held more = absurd cc
    behind_none (g ∷ next) zero f v vs first others lies may tag held more =
        let same : g ≡ f = cc in
        (first, others, refl, subst (λ (x : known.Field). HasTag x.class x.number first) (sym same) tag, subst (λ (x : known.Field). HeldIs rows (tag_of x) x.holds strict levels v first) (sym same) held, more)
    behind_none (g ∷ next) (suc absent) f v vs first others lies may tag held more =
        let p = and_parts g.optional (are_optional (take absent next)) may in
        (p.0, behind_none next absent f v vs first others lies p.1 tag held more)

    module _ (fields : List known.Field) where
      abbrev Follows : List (Option Value) → Value → List ℕ → Type 0
      Follows before v contents = (vs : List (Option Value)) × (v ≡ parts (parts_of (before ++ vs))) × Stand (drop (length before) fields) vs contents

      ends : (before : List (Option Value)) (v : Value) → fields_done fields before ≡ Some v → Follows before v []
      ends before v e = by_test (are_optional (drop (length before) fields)) refl e
        where
          by_test : (b : Bool) → are_optional (drop (length before) fields) ≡ b → cond b (Some (parts (parts_of (before ++ nones (length fields - length before))))) None ≡ Some v → Follows before v []
          by_test true o d =
              let count : length fields - length before ≡ length (drop (length before) fields) = sym (length-drop (length before) fields) in
              let is : parts (parts_of (before ++ nones (length fields - length before))) ≡ v = cc in
              (nones (length (drop (length before) fields)), sym is ∙ ap (λ (n : ℕ). parts (parts_of (before ++ nones n))) count, none_stands (drop (length before) fields) o)
          by_test false o d = absurd cc

      after_known : (before after : List (Option Value)) (v : Value) (first others : List ℕ) → KnownStep rows (drop (length before) fields) before strict levels after first → Follows after v others → Follows before v (first ++ others)
      after_known before after v first others k more =
          let len : length after ≡ length before + suc k.absent = ap length k.is_after ∙ length-append before (nones k.absent ++ Some k.value ∷ []) ∙ ap (λ (n : ℕ). length before + n) (length-append (nones k.absent) (Some k.value ∷ []) ∙ omega (arith, nones_length k.absent)) in
          let rest : drop (length after) fields ≡ drop (suc k.absent) (drop (length before) fields) = ap (λ (n : ℕ). drop n fields) len ∙ sym (drop-drop (suc k.absent) (length before) fields) in
          let same : after ++ more.0 ≡ before ++ (nones k.absent ++ (Some k.value ∷ more.0)) = ap (λ (x : List (Option Value)). x ++ more.0) k.is_after ∙ append_assoc before (nones k.absent ++ Some k.value ∷ []) more.0 ∙ ap (λ (x : List (Option Value)). before ++ x) (append_assoc (nones k.absent) (Some k.value ∷ []) more.0) in (
            nones k.absent ++ (Some k.value ∷ more.0),
            more.1 ∙ ap (λ (x : List (Option Value)). parts (parts_of x)) same,
            behind_none (drop (length before) fields) k.absent k.field k.value more.0 first others k.lies k.may k.has_tag k.holds (subst (λ (x : List known.Field). Stand x more.0 others) rest more.2),
          )
        where
          nones_length : (n : ℕ) → length (nones n) ≡ n
          nones_length zero = refl
          nones_length (suc n) = ap suc (nones_length n)

      after_step : (before after : List (Option Value)) (v : Value) (first others : List ℕ) → FieldStep rows fields [] before strict levels after first → Follows after v others → Follows before v (first ++ others)
      after_step before after v first others (inl k) more = after_known before after v first others k more
      after_step before after v first others (inr p) more = absurd (let none : None ≡ Some p.settled = p.allowed in cc)

      follow : (steps : List (List ℕ × List (Option Value))) (before last : List (Option Value)) (v : Value) (contents : List ℕ) → fields_done fields last ≡ Some v → Steps (λ a b s. FieldStep rows fields [] a strict levels b s) steps before last contents → Follows before v contents
      follow [] before last v contents e p = subst (Follows before v) (sym p.1) (ends before v (ap (fields_done fields) p.0 ∙ e))
      follow (s ∷ more) before last v contents e p = subst (Follows before v) (sym p.1) (after_step before s.1 v s.0 p.0 p.2 (follow more s.1 last v p.0 e p.3))

      pub fields_stand : (v : Value) (contents : List ℕ) → FieldsAre rows fields [] strict levels v contents → Follows [] v contents
      fields_stand v contents p = follow p.2 [] p.0 v contents p.1 p.3

  -- ---- parts of a row

  -- a part may lack where the field may, and what the field holds is a value of the part, with so many turns
  abbrev pub IsHeld : ℕ → known.Field → Part → Type 0
  IsHeld turns f p =
      (f.optional ≡ true → may_be_absent p ≡ true)
      × ((strict : Bool) (levels : ℕ) (v : Value) (s : List ℕ) → HeldIs rows (tag_of f) f.holds strict levels v s → (kept p v ≡ Some v) × SpelledBy rows turns p.inner.0 (bare p.default) strict levels v s)

  abbrev pub AreHeld : ℕ → List known.Field → List Part → Type 0
  AreHeld turns [] [] = Unit {0}
  AreHeld turns [] (p ∷ ps) = ⊥
  AreHeld turns (f ∷ fs) [] = ⊥
  AreHeld turns (f ∷ fs) (p ∷ ps) = IsHeld turns f p × AreHeld turns fs ps

  module _ (turns more : ℕ) (all : turns + more ≡ length rows) where
    pub fewer : (n : ℕ) → n < turns → (strict : Bool) (levels : ℕ) (v : Value) (s : List ℕ) → SpelledBy rows (length rows) n plain strict levels v s → SpelledBy rows turns n plain strict levels v s
    fewer n l strict levels v s p = turns_fewer rows sound more turns n l plain strict levels v s (subst (λ (k : ℕ). SpelledBy rows k n plain strict levels v s) (sym all) p)

    -- a field of a row and a part of that row
    pub row_held : (f : known.Field) (name : List ℕ) (n : ℕ) → f.holds ≡ holds.Row (record { 0 = n }) → n < turns → IsHeld turns f (part name n f.optional)
    row_held f name n e l = (
      λ o. ap (λ (b : Bool). b || false) o,
      λ strict levels v s h. (refl, fewer n l strict levels v s (subst (λ (x : Holds). HeldIs rows (tag_of f) x strict levels v s) e h)),
    )

    module _ (strict : Bool) (levels : ℕ) where
      stand_parts : (fs : List known.Field) (ps : List Part) (vs : List (Option Value)) (contents : List ℕ) → AreHeld turns fs ps → FieldsStand rows sound strict levels fs vs contents → PartsAre (SpelledBy rows turns) strict levels ps (parts_of vs) contents
      stand_parts [] [] [] contents a p = p
      stand_parts [] [] (o ∷ vs) contents a p = absurd p
      stand_parts [] (q ∷ ps) vs contents a p = absurd a
      stand_parts (f ∷ fs) [] vs contents a p = absurd a
      stand_parts (f ∷ fs) (q ∷ ps) [] contents a p = absurd p
      stand_parts (f ∷ fs) (q ∷ ps) (None ∷ vs) contents a p = ([], contents, refl, inl (a.0.0 p.0, refl, refl), stand_parts fs ps vs contents a.1 p.1)
      stand_parts (f ∷ fs) (q ∷ ps) (Some v ∷ vs) contents a p =
          let h = a.0.1 strict levels v p.0 p.4 in
          (p.0, p.1, p.2, inr (v, h.0, h.1), stand_parts fs ps vs p.1 a.1 p.5)

    -- fields are parts of a SEQUENCE
    pub fields_sequence : (strict : Bool) (fields : List known.Field) (ps : List Part) → AreHeld turns fields ps → (v : Value) (levels : ℕ) (contents : List ℕ)
        → FieldsAre rows fields [] strict levels v contents → SequenceIs (SpelledBy rows turns) strict ps v levels contents
    fields_sequence strict fields ps a v levels contents p =
        let r = fields_stand strict levels fields v contents p in
        subst (λ (x : Value). SequenceIs (SpelledBy rows turns) strict ps x levels contents) (sym r.1) (stand_parts strict levels fields ps r.0 contents a r.2)
