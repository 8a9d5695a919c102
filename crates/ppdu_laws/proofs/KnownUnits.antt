-- What is spelled in known fields alone is spelled among all fields, of which the others lack.
use Rattle.std.proofs.Common.{◌≡◌, ℕ, zero, suc, true, false, List, [], ◌∷◌, ◌++◌, length, Option, Some, None, inl, inr, refl, sym, ap, ◌∙◌, subst}
use Rattle.std.specs.Prelude.{option_map}
use Rattle.osi_base.specs.declared.presentation_word.PresentationWord as units
use Rattle.osi_base.specs.declared.presentation_word.PresentationWord.TheVariants as unit
use Rattle.asn1_types.specs.declared.row.Class.TheVariants.{Context}
use Rattle.asn1_types.specs.declared.row.Tag as tags
use Rattle.asn1_types.specs.Value.{Value, parts, absent, present}
use Rattle.asn1_types.specs.ValueView.{parts_of}
use Rattle.ber_spelling.specs.Spelling.{Steps}
use Rattle.passed_fields.specs.declared.field.Field as known
use Rattle.passed_fields.specs.declared.field.Passed as over
use Rattle.passed_fields.specs.Known.{of_row}
use Rattle.passed_fields.specs.Spelling.{FieldsAre}
use Rattle.passed_fields.proofs.MoreTurns.{constructed_more, steps_more}
use Rattle.passed_fields.proofs.PlainFields.{FieldsStand, stand_are}
use Rattle.passed_fields.proofs.FieldParts.{fields_stand}
use Rattle.presentation_pdus.specs.declared.place.PpduPlace.{PpduPlace}
use Rattle.presentation_pdus.specs.declared.place.PpduPlace.TheVariants as place
use Rattle.presentation_pdus.specs.Rows.{ppdu_rows}
use Rattle.presentation_pdus.specs.Fields.{context_tag, sequence_tag, set_tag, user_field, unread_user_field, default_field, connect_fields, connect_passed, accept_fields, accept_passed}
use Rattle.presentation_pdus.specs.Selected.{Relation, Halves, HalfStep, HalvesAre, SelectedIs, halves_done, no_half}
use Rattle.presentation_pdus.specs.Units.{ModeIs, Fielded, PpduIs}
use Rattle.presentation_pdus.proofs.Added.{ppdu_sound}
use Rattle.ppdu_laws.specs.Written.{carries}
use Rattle.ppdu_laws.specs.Known.{known_connect_fields, KnownIs, none_at, lacking, in_fields, read_as}
use Rattle.ppdu_laws.specs.Laws.{KnownPpduIsSpelled}

-- ---- a field more, which lacks

insert_none : ℕ → List (Option Value) → List (Option Value)
insert_none zero vs = None ∷ vs
insert_none (suc n) [] = []
insert_none (suc n) (o ∷ vs) = o ∷ insert_none n vs

none_inserted : (n : ℕ) (vs : List (Option Value)) → parts_of (insert_none n vs) ≡ none_at n (parts_of vs)
unfolding insert_none
none_inserted zero vs = refl
none_inserted (suc n) [] = refl
none_inserted (suc n) (None ∷ vs) = ap absent (none_inserted n vs)
none_inserted (suc n) (Some v ∷ vs) = ap (present v) (none_inserted n vs)

abbrev Stand : ℕ → List known.Field → List (Option Value) → List ℕ → Type 0
Stand levels fs vs c = FieldsStand ppdu_rows ppdu_sound false levels fs vs c

lacks : (levels : ℕ) (front : List known.Field) (f : known.Field) (back : List known.Field) → f.optional ≡ true → (vs : List (Option Value)) (c : List ℕ) → Stand levels (front ++ back) vs c → Stand levels (front ++ f ∷ back) (insert_none (length front) vs) c
unfolding insert_none
lacks levels [] f back o vs c p = (o, p)
lacks levels (g ∷ front) f back o [] c p = absurd p
lacks levels (g ∷ front) f back o (None ∷ vs) c p = (p.0, lacks levels front f back o vs c p.1)
lacks levels (g ∷ front) f back o (Some v ∷ vs) c p = (p.0, p.1, p.2, p.3, p.4, lacks levels front f back o vs p.1 p.5)

module _ (front : List known.Field) (f : known.Field) (back : List known.Field) (optional : f.optional ≡ true) (passed : List over.Passed) where
  fields_wider : (v : Value) (levels : ℕ) (c : List ℕ) → FieldsAre ppdu_rows (front ++ back) [] false levels v c → FieldsAre ppdu_rows (front ++ f ∷ back) passed false levels (lacking (length front) v) c
  fields_wider v levels c p =
      let r = fields_stand ppdu_rows ppdu_sound false levels (front ++ back) v c p in
      let wide : Stand levels (front ++ f ∷ back) (insert_none (length front) r.0) c = lacks levels front f back optional r.0 c r.2 in
      let same : parts (parts_of (insert_none (length front) r.0)) ≡ lacking (length front) v = ap parts (none_inserted (length front) r.0) ∙ ap (lacking (length front)) (sym r.1) in
      subst (λ (x : Value). FieldsAre ppdu_rows (front ++ f ∷ back) passed false levels x c) same (stand_are ppdu_rows ppdu_sound (front ++ f ∷ back) passed false levels (insert_none (length front) r.0) c wide)

  wider : (tag : tags.Tag) (v : Value) (levels : ℕ) (s : List ℕ) → Fielded (front ++ back) [] tag false levels v s → Fielded (front ++ f ∷ back) passed tag false levels (lacking (length front) v) s
  wider tag v levels s p =
      constructed_more tag false levels (λ l c. FieldsAre ppdu_rows (front ++ back) [] false l v c) (λ l c. FieldsAre ppdu_rows (front ++ f ∷ back) passed false l (lacking (length front) v) c) (λ l c q. fields_wider v l c q) s p

-- none more, but others are passed over
passes_more : (fs : List known.Field) (passed : List over.Passed) (tag : tags.Tag) (v : Value) (levels : ℕ) (s : List ℕ) → Fielded fs [] tag false levels v s → Fielded fs passed tag false levels v s
passes_more fs passed tag v levels s p =
    constructed_more tag false levels (λ l c. FieldsAre ppdu_rows fs [] false l v c) (λ l c. FieldsAre ppdu_rows fs passed false l v c)
    (λ l c q.
    let r = fields_stand ppdu_rows ppdu_sound false l fs v c q in
    subst (λ (x : Value). FieldsAre ppdu_rows fs passed false l x c) (sym r.1) (stand_are ppdu_rows ppdu_sound fs passed false l r.0 c r.2)) s p

-- ---- behind the mode selector

module _ (F G : Relation) (f : Value → Value) (h : (levels : ℕ) (v : Value) (s : List ℕ) → F false levels v s → G false levels (f v) s) where
  abbrev turned : Halves → Halves
  turned x = (x.0, option_map f x.1)

  abbrev Half : Relation → ℕ → Halves → Halves → List ℕ → Type 0
  Half R levels a b s = HalfStep ModeIs R a false levels b s

  turned_steps : (levels : ℕ) (steps : List (List ℕ × Halves)) (a b : Halves) (c : List ℕ) → Steps (Half F levels) steps a b c → (more : List (List ℕ × Halves)) × Steps (Half G levels) more (turned a) (turned b) c
  turned_steps levels [] a b c p = ([], (ap turned p.0, p.1))
  turned_steps levels (s ∷ steps) a b c p =
      let r = turned_steps levels steps s.1 b p.0 p.3 in
      ((s.0, turned s.1) ∷ r.0, (p.0, p.1, one p.2, r.1))
    where
      one : Half F levels a s.1 s.0 → Half G levels (turned a) (turned s.1) s.0
      one (inl q) = inl (q.0, q.1, ap turned q.2, q.3)
      one (inr q) = inr (f q.0, ap (option_map f) q.1, ap turned q.2, h levels q.0 s.0 q.3)

  both_turned : (x : Halves) (v : Value) → halves_done x ≡ Some v → halves_done (turned x) ≡ Some (in_fields f v)
  both_turned x v e = by_halves x.0 x.1 e
    where
      by_halves : (a b : Option Value) → halves_done (a, b) ≡ Some v → halves_done (a, option_map f b) ≡ Some (in_fields f v)
      by_halves None b d = absurd cc
      by_halves (Some m) None d = absurd cc
      by_halves (Some m) (Some w) d =
          let same : parts (parts_of (Some m ∷ Some w ∷ [])) ≡ v = cc in
          ap (λ (x : Value). Some (in_fields f x)) same

  selected_turned : (v : Value) (levels : ℕ) (s : List ℕ) → SelectedIs ModeIs F false levels v s → SelectedIs ModeIs G false levels (in_fields f v) s
  selected_turned v levels s p =
      constructed_more set_tag false levels (λ l c. HalvesAre ModeIs F false l v c) (λ l c. HalvesAre ModeIs G false l (in_fields f v) c)
      (λ l c q. let r = turned_steps l q.2 no_half q.0 c q.3 in (turned q.0, both_turned q.0 v q.1, r.0, r.1)) s p

-- ---- each unit

connect_known : (v : Value) (s : List ℕ) → SelectedIs ModeIs (Fielded known_connect_fields [] (context_tag 2)) false 32 v s → SelectedIs ModeIs (Fielded connect_fields connect_passed (context_tag 2)) false 32 (in_fields (lacking 4) v) s
connect_known v s p =
    selected_turned (Fielded known_connect_fields [] (context_tag 2)) (Fielded connect_fields connect_passed (context_tag 2)) (lacking 4)
    (λ l w t q. wider (of_row Context 0 32 true ∷ of_row Context 1 33 true ∷ of_row Context 2 34 true ∷ of_row Context 4 36 true ∷ []) default_field (of_row Context 8 39 true ∷ of_row Context 9 40 true ∷ user_field ∷ []) refl connect_passed (context_tag 2) w l t q) v 32 s p

accept_known : (v : Value) (s : List ℕ) → SelectedIs ModeIs (Fielded accept_fields [] (context_tag 2)) false 32 v s → SelectedIs ModeIs (Fielded accept_fields accept_passed (context_tag 2)) false 32 v s
accept_known v s p =
    constructed_more set_tag false 32 (λ l c. HalvesAre ModeIs (Fielded accept_fields [] (context_tag 2)) false l v c) (λ l c. HalvesAre ModeIs (Fielded accept_fields accept_passed (context_tag 2)) false l v c)
    (λ l c q. (q.0, q.1, q.2, steps_more (λ a b t. HalfStep ModeIs (Fielded accept_fields [] (context_tag 2)) a false l b t) (λ a b t. HalfStep ModeIs (Fielded accept_fields accept_passed (context_tag 2)) a false l b t) (λ a b t w. one l a b t w) q.2 no_half q.0 c q.3)) s p
  where
    one : (l : ℕ) (a b : Halves) (t : List ℕ) → HalfStep ModeIs (Fielded accept_fields [] (context_tag 2)) a false l b t → HalfStep ModeIs (Fielded accept_fields accept_passed (context_tag 2)) a false l b t
    one l a b t (inl q) = inl q
    one l a b t (inr q) = inr (q.0, q.1, q.2, passes_more accept_fields accept_passed (context_tag 2) q.0 l t q.3)

spelled : (carrier : PpduPlace) (word : units.PresentationWord) (v : Value) (s : List ℕ) → carries carrier word ≡ true → KnownIs word false 32 v s → PpduIs carrier false 32 (read_as word v) s
spelled place.Cn (unit.Connect c) v s k p = (in_fields (lacking 4) v, refl, connect_known v s p)
spelled place.Ac (unit.Accept a) v s k p = (v, refl, accept_known v s p)
spelled place.Rf (unit.Reject r) v s k p = (v, refl, p)
spelled place.Td (unit.Alter add delete) v s k p = inl (lacking 2 v, refl, wider (of_row Context 0 49 true ∷ of_row Context 1 50 true ∷ []) unread_user_field [] refl [] (context_tag 0) v 32 s p)
spelled place.Td (unit.AlterAck answers) v s k p = inr (lacking 2 v, refl, wider (of_row Context 0 53 true ∷ of_row Context 1 54 true ∷ []) unread_user_field [] refl [] (context_tag 1) v 32 s p)
spelled place.Rs (unit.Resynchronize restored) v s k p = (lacking 1 v, refl, wider (of_row Context 0 57 true ∷ []) unread_user_field [] refl [] sequence_tag v 32 s p)
spelled place.Ra (unit.ResynchronizeAck restored) v s k p = (lacking 1 v, refl, wider (of_row Context 0 57 true ∷ []) unread_user_field [] refl [] sequence_tag v 32 s p)
spelled place.Ab (unit.UserAbort contexts user) v s k p = inl (v, refl, p)
spelled place.Ab (unit.ProviderAbort reason event) v s k p = inr (v, refl, p)
spelled place.Fn (unit.Data user) v s k p = (v, refl, p)
spelled place.Dn (unit.Data user) v s k p = (v, refl, p)
spelled place.Pt (unit.Data user) v s k p = (v, refl, p)
spelled place.Dt (unit.Data user) v s k p = (v, refl, p)
spelled carrier word v s k p = absurd cc

pub known_ppdu_is_spelled : KnownPpduIsSpelled
known_ppdu_is_spelled carrier word octets k = record { value = read_as word k.value; spelled = spelled carrier word k.value octets k.carried k.spelled; within = k.within; says = k.says }
