-- Parts of a SEQUENCE, one after the other, are fields of which none is passed over.
use Rattle.std.proofs.Common.{◌≡◌, ℕ, zero, suc, ◌+◌, ◌-◌, ◌<◌, ◌≤◌, Bool, true, false, not, ◌&&◌, ◌||◌, List, [], ◌∷◌, ◌++◌, length, take, drop, Option, Some, None, refl, sym, ap, ◌∙◌, subst, arith, append_assoc, length-append, inl, inr}
use Rattle.std.specs.Prelude.{slice_get, nat_eq}
use Rattle.std.specs.List.{list_any}
use Rattle.std.proofs.lemmas.Bool.{and_parts, eqb-true}
use Rattle.std.proofs.lemmas.List.{append-nil, take_at, drop-drop, length-drop}
use Rattle.asn1_types.specs.declared.row.Class.{Class}
use Rattle.asn1_types.specs.declared.row.Part.{Part}
use Rattle.asn1_types.specs.declared.row.TypeRow.{TypeRow}
use Rattle.asn1_types.specs.Rows.{same_class, is_no_tag, openings, allows, begins, tag}
use Rattle.asn1_types.specs.Table.{AreSoundRows}
use Rattle.asn1_types.specs.Value.{Value, parts, MaybeValues, no_parts, absent, present}
use Rattle.asn1_types.specs.ValueView.{parts_of}
use Rattle.asn1_types.specs.FixedRows.{part}
use Rattle.ber_spelling.specs.declared.spot.Scope.{Scope}
use Rattle.ber_spelling.specs.Rules.{plain}
use Rattle.ber_spelling.specs.Spelling.{PartIs, PartsAre, SequenceIs, Steps, SpelledBy}
use Rattle.ber_spelling.proofs.Identifiers.{IsIn}
use Rattle.ber_spelling.proofs.Steady.{same_classes}
use Rattle.ber_spelling.proofs.RowLaws.{along_only}
use Rattle.passed_fields.specs.declared.field.Field as known
use Rattle.passed_fields.specs.declared.field.Passed as over
use Rattle.passed_fields.specs.declared.field.Holds.{Holds}
use Rattle.passed_fields.specs.declared.field.Holds.TheVariants as holds
use Rattle.passed_fields.specs.Passing.{are_optional, nones}
use Rattle.passed_fields.specs.Reading.{tag_of, fields_done}
use Rattle.passed_fields.specs.Spelling.{HasTag, HeldIs, FieldStep, FieldsAre}
use Rattle.passed_fields.proofs.Tags.{text_tag}
use Rattle.passed_fields.proofs.MoreTurns.{turns_more}

-- ---- the tag of a row's values

module _ (rows : List TypeRow) (sound : AreSoundRows rows) where
  row_tag : (n : ℕ) (class : Class) (number : ℕ) → openings rows n ≡ tag class number ∷ [] → (c : Class) (k : ℕ) → begins rows n c k ≡ true → (c ≡ class) × (k ≡ number)
  row_tag n class number o c k h =
      let some : (not (is_no_tag c k) && list_any (allows c k) (tag class number ∷ [])) ≡ true = rw o at h in
      let a = and_parts (not (is_no_tag c k)) (list_any (allows c k) (tag class number ∷ [])) some in
      one (same_class c class) (nat_eq k number) refl refl a.1
    where
      one : (x y : Bool) → same_class c class ≡ x → nat_eq k number ≡ y → ((x && y) || false) ≡ true → (c ≡ class) × (k ≡ number)
      one true true d n e = (same_classes c class d, eqb-true k number n)
      one true false d n e = absurd cc
      one false y d n e = absurd cc

  pub spelled_tag : (n : ℕ) (class : Class) (number : ℕ) → openings rows n ≡ tag class number ∷ [] → number < 31 → (strict : Bool) (levels : ℕ) (v : Value) (s : List ℕ) → SpelledBy rows (length rows) n plain strict levels v s → HasTag class number s
  spelled_tag n class number o low strict levels v s p =
      let scope : Scope = record { levels = levels; limit = length s; end = None; marked = false; strict = strict } in
      let le : 0 + length s ≤ length s = omega arith in
      let here : IsIn scope (0 + length s) = record { limit = le; end = refl } in
      let r = (along_only rows sound (length rows) n plain tt).only scope 0 v s [] p here in
      let t = row_tag n class number o r.opened.class r.opened.number r.allowed in
      let small : r.opened.number < 31 = let same = t.1 in omega arith in
      let some : 0 < length s = let len : length s ≡ suc (length r.others) = ap length r.begins in omega arith in
      let tagged = text_tag scope 0 (s ++ []) r.opened r.spot s [] r.opens refl some small in
      subst (λ (x : Class × ℕ). HasTag x.0 x.1 s) (λ i. (t.0 i, t.1 i)) tagged

  -- ---- fields each of which stands or doesn't

  abbrev pub FieldsStand : Bool → ℕ → List known.Field → List (Option Value) → List ℕ → Type 0
  FieldsStand strict levels [] [] contents = contents ≡ []
  FieldsStand strict levels [] (o ∷ vs) contents = ⊥
  FieldsStand strict levels (f ∷ fs) [] contents = ⊥
  FieldsStand strict levels (f ∷ fs) (None ∷ vs) contents = (f.optional ≡ true) × FieldsStand strict levels fs vs contents
  FieldsStand strict levels (f ∷ fs) (Some v ∷ vs) contents =
      (first : List ℕ) × (others : List ℕ) × (contents ≡ first ++ others) × HasTag f.class f.number first × HeldIs rows (tag_of f) f.holds strict levels v first × FieldsStand strict levels fs vs others

  all_optional : (a b : List known.Field) → are_optional a ≡ true → are_optional b ≡ true → are_optional (a ++ b) ≡ true
  all_optional [] b x y = y
  all_optional (f ∷ a) b x y = let p = and_parts f.optional (are_optional a) x in rw (p.0, all_optional a b p.1 y) refl

  nones_behind : (n : ℕ) (more : List (Option Value)) → nones (n + 1) ++ more ≡ nones n ++ (None ∷ more)
  nones_behind zero more = refl
  nones_behind (suc n) more = let one : suc n + 1 ≡ suc (n + 1) = omega arith in ap (λ (k : ℕ). nones k ++ more) one ∙ ap (λ (x : List (Option Value)). None ∷ x) (nones_behind n more)

  nth_behind : (a : List known.Field) (f : known.Field) (b : List known.Field) → slice_get (a ++ (f ∷ b)) (length a) ≡ Some f
  nth_behind [] f b = refl
  nth_behind (g ∷ a) f b = nth_behind a f b

  drop_behind : (a : List known.Field) (f : known.Field) (b : List known.Field) → drop (suc (length a)) (a ++ (f ∷ b)) ≡ b
  drop_behind [] f b = refl
  drop_behind (g ∷ a) f b = drop_behind a f b

  nones_length : (n : ℕ) → length (nones n) ≡ n
  nones_length zero = refl
  nones_length (suc n) = ap suc (nones_length n)

  module _ (fields : List known.Field) (passed : List over.Passed) (strict : Bool) (levels : ℕ) where
    abbrev Leads : List (Option Value) → List (Option Value) → List ℕ → Type 0
    Leads before all contents =
        (last : List (Option Value)) × (fields_done fields last ≡ Some (parts (parts_of all))) × (steps : List (List ℕ × List (Option Value)))
        × Steps (λ a b s. FieldStep rows fields passed a strict levels b s) steps before last contents

    -- those skipped don't stand
    leads : (fs : List known.Field) (vs : List (Option Value)) (before : List (Option Value)) (skipped : List known.Field) (contents : List ℕ) → drop (length before) fields ≡ skipped ++ fs → are_optional skipped ≡ true → FieldsStand strict levels fs vs contents
        → Leads before (before ++ (nones (length skipped) ++ vs)) contents
    leads [] [] before skipped contents next may p =
        let rest : drop (length before) fields ≡ skipped = next ∙ append-nil skipped in
        let count : length fields - length before ≡ length skipped = sym (length-drop (length before) fields) ∙ ap length rest in
        let all : are_optional (drop (length before) fields) ≡ true = ap are_optional rest ∙ may in
        let same : before ++ nones (length fields - length before) ≡ before ++ (nones (length skipped) ++ []) = ap (λ (n : ℕ). before ++ nones n) count ∙ ap (λ (x : List (Option Value)). before ++ x) (sym (append-nil (nones (length skipped)))) in
        (before, rw all (ap (λ (x : List (Option Value)). Some (parts (parts_of x))) same), [], (refl, p))
    leads [] (o ∷ vs) before skipped contents next may p = absurd p
    leads (f ∷ fs) [] before skipped contents next may p = absurd p
    leads (f ∷ fs) (None ∷ vs) before skipped contents next may p =
        let more : drop (length before) fields ≡ (skipped ++ f ∷ []) ++ fs = next ∙ sym (append_assoc skipped (f ∷ []) fs) in
        let one : are_optional (f ∷ []) ≡ true = rw p.0 refl in
        let len : length (skipped ++ f ∷ []) ≡ length skipped + 1 = length-append skipped (f ∷ []) in
        let r = leads fs vs before (skipped ++ f ∷ []) contents more (all_optional skipped (f ∷ []) may one) p.1 in
        let same : before ++ (nones (length (skipped ++ f ∷ [])) ++ vs) ≡ before ++ (nones (length skipped) ++ (None ∷ vs)) = ap (λ (n : ℕ). before ++ (nones n ++ vs)) len ∙ ap (λ (x : List (Option Value)). before ++ x) (nones_behind (length skipped) vs) in
        subst (λ (x : List (Option Value)). Leads before x contents) same r
    leads (f ∷ fs) (Some v ∷ vs) before skipped contents next may p =
        let after : List (Option Value) = before ++ (nones (length skipped) ++ Some v ∷ []) in
        let len : length after ≡ length before + suc (length skipped) = length-append before (nones (length skipped) ++ Some v ∷ []) ∙ ap (λ (n : ℕ). length before + n) (length-append (nones (length skipped)) (Some v ∷ []) ∙ omega (arith, nones_length (length skipped))) in
        let behind : drop (length after) fields ≡ [] ++ fs = ap (λ (n : ℕ). drop n fields) len ∙ sym (drop-drop (suc (length skipped)) (length before) fields) ∙ ap (drop (suc (length skipped))) next ∙ drop_behind skipped f fs in
        let r = leads fs vs after [] p.1 behind refl p.5 in
        let lies : slice_get (drop (length before) fields) (length skipped) ≡ Some f = ap (λ (x : List known.Field). slice_get x (length skipped)) next ∙ nth_behind skipped f fs in
        let front : take (length skipped) (drop (length before) fields) ≡ skipped = ap (take (length skipped)) next ∙ take_at skipped (f ∷ fs) (length skipped) refl in
        let step : FieldStep rows fields passed before strict levels after p.0 = inl (record {
          absent = length skipped;
          field = f;
          value = v;
          lies = lies;
          may = ap are_optional front ∙ may;
          has_tag = p.3;
          holds = p.4;
          is_after = refl;
        }) in
        let same : after ++ vs ≡ before ++ (nones (length skipped) ++ (Some v ∷ vs)) = append_assoc before (nones (length skipped) ++ Some v ∷ []) vs ∙ ap (λ (x : List (Option Value)). before ++ x) (append_assoc (nones (length skipped)) (Some v ∷ []) vs) in
        subst (λ (x : List (Option Value)). Leads before x contents) same (r.0, r.1, (p.0, after) ∷ r.2, (p.1, p.2, step, r.3))

    pub stand_are : (vs : List (Option Value)) (contents : List ℕ) → FieldsStand strict levels fields vs contents → FieldsAre rows fields passed strict levels (parts (parts_of vs)) contents
    stand_are vs contents p = leads fields vs [] [] contents refl refl p

  -- ---- parts of a row

  -- a part and a field of the same row
  abbrev pub IsPart : known.Field → Part → Type 0
  IsPart f p = (name : List ℕ) × (n : ℕ) × (p ≡ part name n f.optional) × (f.holds ≡ holds.Row (record { 0 = n })) × (openings rows n ≡ tag f.class f.number ∷ []) × (f.number < 31)

  abbrev pub AreParts : List known.Field → List Part → Type 0
  AreParts [] [] = Unit {0}
  AreParts [] (p ∷ ps) = ⊥
  AreParts (f ∷ fs) [] = ⊥
  AreParts (f ∷ fs) (p ∷ ps) = IsPart f p × AreParts fs ps

  off : (b : Bool) → (b || false) ≡ true → b ≡ true
  off true e = refl
  off false e = absurd cc

  module _ (turns more : ℕ) (all : turns + more ≡ length rows) (strict : Bool) (levels : ℕ) where
    absent_may : (name : List ℕ) (n : ℕ) (optional : Bool) (s : List ℕ) → PartIs (SpelledBy rows turns n) strict levels (part name n optional) None s → (optional ≡ true) × (s ≡ [])
    absent_may name n optional s (inl a) = (off optional a.0, a.2)
    absent_may name n optional s (inr a) = absurd (let wrong : Some a.0 ≡ None = a.1 in cc)

    present_is : (name : List ℕ) (n : ℕ) (optional : Bool) (v : Value) (s : List ℕ) → PartIs (SpelledBy rows turns n) strict levels (part name n optional) (Some v) s → SpelledBy rows (length rows) n plain strict levels v s
    present_is name n optional v s (inl a) = absurd (let wrong : Some v ≡ None = a.1 in cc)
    present_is name n optional v s (inr a) =
        let same : a.0 ≡ v = cc in
        subst (λ (k : ℕ). SpelledBy rows k n plain strict levels v s) all (turns_more rows more turns n plain strict levels v s (subst (λ (w : Value). SpelledBy rows turns n plain strict levels w s) same a.2))

    abbrev Stand : List known.Field → MaybeValues → List ℕ → Type 0
    Stand fs ms contents = (vs : List (Option Value)) × (parts_of vs ≡ ms) × FieldsStand strict levels fs vs contents

    pub parts_stand : (fs : List known.Field) (ps : List Part) (ms : MaybeValues) (contents : List ℕ) → AreParts fs ps → PartsAre (SpelledBy rows turns) strict levels ps ms contents → Stand fs ms contents
    parts_stand [] [] no_parts contents a p = ([], refl, p)
    parts_stand [] [] (absent ms) contents a p = absurd p
    parts_stand [] [] (present v ms) contents a p = absurd p
    parts_stand [] (q ∷ ps) ms contents a p = absurd a
    parts_stand (f ∷ fs) [] ms contents a p = absurd a
    parts_stand (f ∷ fs) (q ∷ ps) no_parts contents a p = absurd p
    parts_stand (f ∷ fs) (q ∷ ps) (absent ms) contents a p =
        let i = a.0 in
        let here : PartIs (SpelledBy rows turns i.1) strict levels (part i.0 i.1 f.optional) None p.0 = subst (λ (x : Part). PartIs (SpelledBy rows turns x.inner.0) strict levels x None p.0) i.2 p.3 in
        let m = absent_may i.0 i.1 f.optional p.0 here in
        let r = parts_stand fs ps ms p.1 a.1 p.4 in
        let same : p.1 ≡ contents = sym (p.2 ∙ ap (λ (x : List ℕ). x ++ p.1) m.1) in
        (None ∷ r.0, ap absent r.1, (m.0, subst (λ (x : List ℕ). FieldsStand strict levels fs r.0 x) same r.2))
    parts_stand (f ∷ fs) (q ∷ ps) (present v ms) contents a p =
        let i = a.0 in
        let here : PartIs (SpelledBy rows turns i.1) strict levels (part i.0 i.1 f.optional) (Some v) p.0 = subst (λ (x : Part). PartIs (SpelledBy rows turns x.inner.0) strict levels x (Some v) p.0) i.2 p.3 in
        let spelled = present_is i.0 i.1 f.optional v p.0 here in
        let tagged = spelled_tag i.1 f.class f.number i.4 i.5 strict levels v p.0 spelled in
        let held : HeldIs rows (tag_of f) f.holds strict levels v p.0 = subst (λ (x : Holds). HeldIs rows (tag_of f) x strict levels v p.0) (sym i.3) spelled in
        let r = parts_stand fs ps ms p.1 a.1 p.4 in
        (Some v ∷ r.0, ap (present v) r.1, (p.0, p.1, p.2, tagged, held, r.2))

  -- a SEQUENCE of parts that are fields
  pub sequence_fields : (turns more : ℕ) → turns + more ≡ length rows → (strict : Bool) (fields : List known.Field) (passed : List over.Passed) (ps : List Part) → AreParts fields ps → (v : Value) (levels : ℕ) (contents : List ℕ)
      → SequenceIs (SpelledBy rows turns) strict ps v levels contents → FieldsAre rows fields passed strict levels v contents
  sequence_fields turns more all strict fields passed ps are (parts ms) levels contents q =
      let r = parts_stand turns more all strict levels fields ps ms contents are q in
      subst (λ (m : MaybeValues). FieldsAre rows fields passed strict levels (parts m) contents) r.1 (stand_are fields passed strict levels r.0 contents r.2)
  sequence_fields turns more all strict fields passed ps are v levels contents q = absurd q
