-- Each row: what is read is spelled so, and what is spelled so is read.
use Rattle.std.proofs.Common.{◌≡◌, ℕ, zero, suc, ◌+◌, Bool, true, false, not, ◌||◌, List, [], ◌∷◌, Option, Some, None, refl, ap, ◌∙◌, subst, arith, inl, inr, ℤ, ◌&&◌, sym}
use Rattle.std.proofs.lemmas.Bool.{and_parts}
use Rattle.std.specs.Prelude.{slice_get}
use Rattle.std.specs.List.{list_any, flat_map}
use Rattle.std.proofs.lemmas.List.Folds.{list_any-append}
use Rattle.asn1_types.specs.declared.row.Class.{Class}
use Rattle.asn1_types.specs.declared.row.Class.TheVariants.{Universal}
use Rattle.asn1_types.specs.declared.row.Part.{Part}
use Rattle.asn1_types.specs.declared.row.TextKind.{TextKind}
use Rattle.asn1_types.specs.declared.row.TextKind.TheVariants.{Utf8, Ia5, Visible, Printable, Numeric}
use Rattle.asn1_types.specs.declared.row.TypeRow.{TypeRow}
use Rattle.asn1_types.specs.declared.row.TypeRow.TheVariants as row
use Rattle.asn1_types.specs.Rows.{tag, every, of_row, along, begins, openings, is_no_tag, allows, text_number}
use Rattle.asn1_types.specs.Defaults.{is_default}
use Rattle.asn1_types.specs.Value.{Value}
use Rattle.asn1_types.specs.Table.{AreSoundRows}
use Rattle.asn1_types.proofs.Sound.{IsSoundRow, sound_row}
use Rattle.asn1_types.specs.declared.row.Tag as tags
use Rattle.asn1_types.specs.Tags.{tag_or}
use Rattle.ber_spelling.specs.declared.spot.StringKind.TheVariants.{OfOctets, OfBits}
use Rattle.ber_spelling.specs.Rules.{Reader, dead, read_by, or_explicit, explicit_at, choice_at, any_at, always, all_items_at, slot_at, set_done, nothing_filled, boolean_rule, is_strict_boolean, integer_rule, enumerated_rule, null_rule, object_id_rule, whole_octets, whole_text, whole_bits, has_zero_bits, sequence_at, Guise, bare, plain, under, is_other}
use Rattle.ber_spelling.specs.Spelling.{Spelled, RowIs, RowOr, SpelledBy, OrExplicit, ChoiceIs, SequenceIs, ItemsAre, SetStep, AnyIs, BooleanIs, IntegerIs, EnumeratedIs, NullIs, ObjectIdIs, IsOther}
use Rattle.ber_spelling.proofs.Steady.{Run, Relation, Found, Only, only_wider, OfTag, prim_found, prim_only, class_itself, eqb_itself}
use Rattle.ber_spelling.proofs.Constructed.{ConstructedBy, constructed_found, constructed_only, explicit_body, explicit_found, explicit_only, explicit_same}
use Rattle.ber_spelling.proofs.Sequences.{sequence_body, sequence_found, choice_at_found}
use Rattle.ber_spelling.proofs.SequencesBack.{sequence_only, choice_only}
use Rattle.ber_spelling.proofs.Distinct.{AnyAllows}
use Rattle.ber_spelling.proofs.Heads.{AreHeaded, along_headed}
use Rattle.ber_spelling.proofs.Sets.{set_found, set_only}
use Rattle.ber_spelling.proofs.WholeReads.{IsTagged}
use Rattle.ber_spelling.proofs.Anys.{any_found, any_only}
use Rattle.ber_spelling.proofs.Contents.{boolean_sound, boolean_complete, integer_sound, integer_complete, enumerated_sound, enumerated_complete, null_sound, null_complete}
use Rattle.ber_spelling.proofs.Segments.{string_found, string_only, list_found, list_only, set_of_found, set_of_only}
use Rattle.ber_spelling.proofs.Oids.{object_id_sound, object_id_complete}
use Rattle.asn1_types.specs.Writing.{written}

-- ---- what is read is spelled so

dead_found : (t : Guise) → Found (dead t) (λ strict levels v text. ⊥)
dead_found t = record { found = λ scope place rest o s v to are opens e. absurd cc }

pub tagged_found : (run : Run) (P : Relation) (t : tags.Tag) → Found run P → Found (explicit_at run t) (ConstructedBy t P)
tagged_found run P t h = subst (λ (r : Run). Found r (ConstructedBy t P)) (explicit_same run t) (constructed_found (explicit_body run) t P (explicit_found run P h))

or_found : (run : Run) (P : Relation) (t : Option tags.Tag) → Found run P → Found (or_explicit run t) (OrExplicit P t)
or_found run P None h = h
or_found run P (Some t) h = tagged_found run P t h

-- contents that are canonical are no default's
other_found : (rule : List ℕ → Option Value) (default : Option ℤ) (strict : Bool) (c : List ℕ) (v : Value) → rule c ≡ Some v → (strict ≡ true → is_other default (rule c) ≡ true) → IsOther default strict v
other_found rule default strict c v e k = λ x. not_true (is_default default v) (subst (λ (o : Option Value). is_other default o ≡ true) e (k x))
  where
    not_true : (b : Bool) → not b ≡ true → b ≡ false
    not_true true h = absurd cc
    not_true false h = refl

other_only : (rule : List ℕ → Option Value) (default : Option ℤ) (strict : Bool) (c : List ℕ) (v : Value) → rule c ≡ Some v → IsOther default strict v → strict ≡ true → is_other default (rule c) ≡ true
other_only rule default strict c v e h x = subst (λ (o : Option Value). is_other default o ≡ true) (sym e) (ap not (h x))

module _ (rows : List TypeRow) where
  row_found : (inner : ℕ → Reader) (rel : ℕ → Spelled) → ((n : ℕ) (t : Guise) → Found (inner n t) (rel n t)) → ((n : ℕ) → AreHeaded (rel n)) → (r : TypeRow) (t : Guise) → Found (read_by (begins rows) (written rows) inner r t) (RowIs (written rows) rel r t)
  unfolding sequence_at
  row_found inner rel h heads row.Boolean t = prim_found boolean_rule (λ c. is_strict_boolean c && is_other t.default (boolean_rule c)) (tag_or t.tag Universal 1) (λ strict v c. BooleanIs strict v c × IsOther t.default strict v) (λ strict c v are e k. (boolean_sound strict c v are e (λ x. (and_parts (is_strict_boolean c) (is_other t.default (boolean_rule c)) (k x)).0), other_found boolean_rule t.default strict c v e (λ x. (and_parts (is_strict_boolean c) (is_other t.default (boolean_rule c)) (k x)).1)))
  row_found inner rel h heads (row.Integer low high) t = prim_found (integer_rule low high) (λ c. is_other t.default (integer_rule low high c)) (tag_or t.tag Universal 2) (λ strict v c. IntegerIs low high v c × IsOther t.default strict v) (λ strict c v are e k. (integer_sound low high c v are e, other_found (integer_rule low high) t.default strict c v e k))
  row_found inner rel h heads (row.Enumerated items) t = prim_found (enumerated_rule items) (λ c. is_other t.default (enumerated_rule items c)) (tag_or t.tag Universal 10) (λ strict v c. EnumeratedIs items v c × IsOther t.default strict v) (λ strict c v are e k. (enumerated_sound items c v e, other_found (enumerated_rule items) t.default strict c v e k))
  row_found inner rel h heads row.Null t = prim_found null_rule always (tag_or t.tag Universal 5) (λ strict. NullIs) (λ strict c v are e k. null_sound c v are e)
  row_found inner rel h heads (row.OctetString most) t = string_found OfOctets (whole_octets most) always (tag_or t.tag Universal 4)
  row_found inner rel h heads row.BitString t = string_found OfBits whole_bits has_zero_bits (tag_or t.tag Universal 3)
  row_found inner rel h heads row.ObjectId t = prim_found object_id_rule always (tag_or t.tag Universal 6) (λ strict. ObjectIdIs) (λ strict c v are e k. object_id_sound c v are e)
  row_found inner rel h heads (row.Text kind) t = string_found OfOctets (whole_text kind) always (tag_or t.tag Universal (text_number kind))
  row_found inner rel h heads (row.Sequence ps) t =
      constructed_found (sequence_body (begins rows) inner ps) (tag_or t.tag Universal 16) (λ strict levels v c. SequenceIs rel strict ps v levels c) (sequence_found (begins rows) inner rel h ps)
  row_found inner rel h heads (row.Set ps) t =
      constructed_found (all_items_at (slot_at (begins rows) inner 0 ps) (set_done ps) (nothing_filled ps)) (tag_or t.tag Universal 17) (ItemsAre (set_done ps) (SetStep rel ps) (nothing_filled ps)) (set_found (begins rows) inner rel h heads ps)
  row_found inner rel h heads (row.SequenceOf of) t = list_found (inner of.0) (rel of.0) (tag_or t.tag Universal 16) (h of.0 plain)
  row_found inner rel h heads (row.SetOf of) t = set_of_found (written rows of.0) (inner of.0) (rel of.0) (tag_or t.tag Universal 17) (h of.0 plain)
  row_found inner rel h heads (row.Choice ps) t = or_found (choice_at (begins rows) inner 0 ps) (ChoiceIs rel ps) t.tag (choice_at_found (begins rows) inner rel h ps ps 0 (λ i p e. let none : 0 + i ≡ i = omega arith in ap (slice_get ps) none ∙ e))
  row_found inner rel h heads (row.Tagged class number true of) t = tagged_found (inner of.0 (bare t.default)) (rel of.0 (bare t.default)) (tag_or t.tag class number) (h of.0 (bare t.default))
  row_found inner rel h heads (row.Tagged class number false of) t = h of.0 (under (Some (tag_or t.tag class number)) t.default)
  row_found inner rel h heads row.Any t = or_found any_at (λ strict. AnyIs) t.tag any_found

  of_found : (inner : ℕ → Reader) (rel : ℕ → Spelled) → ((n : ℕ) (t : Guise) → Found (inner n t) (rel n t)) → ((n : ℕ) → AreHeaded (rel n)) → (o : Option TypeRow) (t : Guise)
      → Found (of_row dead (read_by (begins rows) (written rows) inner) o t) (λ strict levels v text. RowOr (RowIs (written rows) rel) o t strict levels v text)
  of_found inner rel h heads None t = dead_found t
  of_found inner rel h heads (Some r) t = row_found inner rel h heads r t

  pub along_found : (turns n : ℕ) (t : Guise) → Found (along dead (read_by (begins rows) (written rows)) rows turns n t) (λ strict levels v text. SpelledBy rows turns n t strict levels v text)
  along_found zero n t = dead_found t
  along_found (suc turns) n t = of_found (along dead (read_by (begins rows) (written rows)) rows turns) (SpelledBy rows turns) (λ m u. along_found turns m u) (λ m. along_headed rows turns m) (slice_get rows n) t

-- ---- what is spelled so is read

-- the identifiers that a value of row n may have, under another tag if one is given
abbrev pub Allowed : List TypeRow → ℕ → Option tags.Tag → Class → ℕ → Type 0
Allowed rows n None class number = begins rows n class number ≡ true
Allowed rows n (Some t) class number = OfTag t class number

-- another tag is no UNIVERSAL 0
abbrev pub OkTag : Option tags.Tag → Type 0
OkTag None = Unit {0}
OkTag (Some t) = is_no_tag t.class t.number ≡ false

pub tag_ok : (t : Option tags.Tag) (class : Class) (number : ℕ) → OkTag t → is_no_tag class number ≡ false → is_no_tag (tag_or t class number).class (tag_or t class number).number ≡ false
tag_ok None class number h e = e
tag_ok (Some t) class number h e = h

nothing : (B : Class → ℕ → Type 0) (r : Run) → Only B r (λ strict levels v text. ⊥)
nothing B r = record { only = λ scope place v text rest p here. absurd p }

tagged_only : (B : Class → ℕ → Type 0) (run : Run) (P : Relation) (t : tags.Tag) → is_no_tag t.class t.number ≡ false → Only B run P → Only (OfTag t) (explicit_at run t) (ConstructedBy t P)
tagged_only B run P t e h = subst (λ (r : Run). Only (OfTag t) r (ConstructedBy t P)) (explicit_same run t) (constructed_only (explicit_body run) t P e (explicit_only B run P h))

pub text_tag : (kind : TextKind) → is_no_tag Universal (text_number kind) ≡ false
text_tag Utf8 = refl
text_tag Ia5 = refl
text_tag Visible = refl
text_tag Printable = refl
text_tag Numeric = refl

or_left : (a b : Bool) → a ≡ true → (a || b) ≡ true
or_left true b e = refl
or_left false b e = absurd cc

or_right : (a b : Bool) → b ≡ true → (a || b) ≡ true
or_right true b e = refl
or_right false b e = e

module _ (rows : List TypeRow) (n : ℕ) where
  own_begins : (c : Class) (k : ℕ) → openings rows n ≡ tag c k ∷ [] → is_no_tag c k ≡ false → (class : Class) (number : ℕ) → (class ≡ c) × (number ≡ k) → begins rows n class number ≡ true
  own_begins c k o e class number same = rw (o, same.0, same.1, e, class_itself c, eqb_itself k) refl

  own : (c : Class) (k : ℕ) → openings rows n ≡ tag c k ∷ [] → is_no_tag c k ≡ false → (t : Option tags.Tag) (r : Run) (P : Relation) → Only (OfTag (tag_or t c k)) r P → Only (Allowed rows n t) r P
  own c k o e None r P h = only_wider (OfTag (record { class = c; number = k })) (Allowed rows n None) r P (λ class number same. own_begins c k o e class number same) h
  own c k o e (Some t) r P h = h

  flat_some : (ps : List Part) (class : Class) (number : ℕ) → AnyAllows (openings rows) ps class number
      → (not (is_no_tag class number) ≡ true) × (list_any (allows class number) (flat_map (λ (p : Part). openings rows p.inner.0) ps) ≡ true)
  flat_some [] class number h = absurd h
  flat_some (p ∷ ps) class number (inl h) =
      let t = and_parts (not (is_no_tag class number)) (list_any (allows class number) (openings rows p.inner.0)) h in
      (t.0, rw (list_any-append (allows class number) (openings rows p.inner.0) (flat_map (λ (q : Part). openings rows q.inner.0) ps)) (or_left _ _ t.1))
  flat_some (p ∷ ps) class number (inr h) =
      let t = flat_some ps class number h in
      (t.0, rw (list_any-append (allows class number) (openings rows p.inner.0) (flat_map (λ (q : Part). openings rows q.inner.0) ps)) (or_right _ _ t.1))

  choice_begins : (ps : List Part) → openings rows n ≡ flat_map (λ (p : Part). openings rows p.inner.0) ps → (class : Class) (number : ℕ) → AnyAllows (openings rows) ps class number → begins rows n class number ≡ true
  choice_begins ps o class number h = let t = flat_some ps class number h in rw (o, t.0, t.1) refl

  any_begins : openings rows n ≡ every ∷ [] → (class : Class) (number : ℕ) → IsTagged class number → begins rows n class number ≡ true
  any_begins o class number h = rw (o, h) refl

  or_only : (B : Class → ℕ → Type 0) (run : Run) (P : Relation) (t : Option tags.Tag) → OkTag t → ((c : Class) (k : ℕ) → B c k → begins rows n c k ≡ true) → Only B run P → Only (Allowed rows n t) (or_explicit run t) (OrExplicit P t)
  or_only B run P None ok w h = only_wider B (Allowed rows n None) run P w h
  or_only B run P (Some t) ok w h = tagged_only B run P t ok h

  both : {a b : Bool} → a ≡ true → b ≡ true → (a && b) ≡ true
  both x y = rw (x, y) refl

  row_only : (inner : ℕ → Reader) (rel : ℕ → Spelled) → ((m : ℕ) (t : Guise) → OkTag t.tag → Only (Allowed rows m t.tag) (inner m t) (rel m t)) → ((m : ℕ) → AreHeaded (rel m))
      → (r : TypeRow) → IsSoundRow rows n r → (t : Guise) → OkTag t.tag → Only (Allowed rows n t.tag) (read_by (begins rows) (written rows) inner r t) (RowIs (written rows) rel r t)
  unfolding sequence_at
  row_only inner rel h heads row.Boolean s t ok =
      own Universal 1 s.opens refl t.tag _ _ (prim_only boolean_rule (λ c. is_strict_boolean c && is_other t.default (boolean_rule c)) (tag_or t.tag Universal 1) (λ strict v c. BooleanIs strict v c × IsOther t.default strict v) (tag_ok t.tag Universal 1 ok refl) (λ strict c v p. (let x = boolean_complete strict c v p.0 in (x.0, λ k. both (x.1 k) (other_only boolean_rule t.default strict c v x.0 p.1 k)))))
  row_only inner rel h heads (row.Integer low high) s t ok =
      own Universal 2 s.opens refl t.tag _ _ (prim_only (integer_rule low high) (λ c. is_other t.default (integer_rule low high c)) (tag_or t.tag Universal 2) (λ strict v c. IntegerIs low high v c × IsOther t.default strict v) (tag_ok t.tag Universal 2 ok refl) (λ strict c v p. (let x = integer_complete low high c v p.0 in (x, other_only (integer_rule low high) t.default strict c v x p.1))))
  row_only inner rel h heads (row.Enumerated items) s t ok =
      own Universal 10 s.opens refl t.tag _ _ (prim_only (enumerated_rule items) (λ c. is_other t.default (enumerated_rule items c)) (tag_or t.tag Universal 10) (λ strict v c. EnumeratedIs items v c × IsOther t.default strict v) (tag_ok t.tag Universal 10 ok refl) (λ strict c v p. (let x = enumerated_complete items c v p.0 in (x, other_only (enumerated_rule items) t.default strict c v x p.1))))
  row_only inner rel h heads row.Null s t ok =
      own Universal 5 s.opens refl t.tag _ _ (prim_only null_rule always (tag_or t.tag Universal 5) (λ strict. NullIs) (tag_ok t.tag Universal 5 ok refl) (λ strict c v p. (null_complete c v p, λ k. refl)))
  row_only inner rel h heads (row.OctetString most) s t ok = own Universal 4 s.opens refl t.tag _ _ (string_only OfOctets (whole_octets most) always (tag_or t.tag Universal 4) (tag_ok t.tag Universal 4 ok refl))
  row_only inner rel h heads row.BitString s t ok = own Universal 3 s.opens refl t.tag _ _ (string_only OfBits whole_bits has_zero_bits (tag_or t.tag Universal 3) (tag_ok t.tag Universal 3 ok refl))
  row_only inner rel h heads row.ObjectId s t ok =
      own Universal 6 s.opens refl t.tag _ _ (prim_only object_id_rule always (tag_or t.tag Universal 6) (λ strict. ObjectIdIs) (tag_ok t.tag Universal 6 ok refl) (λ strict c v p. (object_id_complete c v p, λ k. refl)))
  row_only inner rel h heads (row.Text kind) s t ok =
      own Universal (text_number kind) s.opens (text_tag kind) t.tag _ _ (string_only OfOctets (whole_text kind) always (tag_or t.tag Universal (text_number kind)) (tag_ok t.tag Universal (text_number kind) ok (text_tag kind)))
  row_only inner rel h heads (row.Sequence ps) s t ok =
      own Universal 16 s.opens refl t.tag _ _
      (constructed_only (sequence_body (begins rows) inner ps) (tag_or t.tag Universal 16) (λ strict levels v c. SequenceIs rel strict ps v levels c) (tag_ok t.tag Universal 16 ok refl)
      (sequence_only (openings rows) inner rel (λ m d. h m (bare d) tt) ps s.apart))
  row_only inner rel h heads (row.Set ps) s t ok =
      own Universal 17 s.opens refl t.tag _ _
      (constructed_only (all_items_at (slot_at (begins rows) inner 0 ps) (set_done ps) (nothing_filled ps)) (tag_or t.tag Universal 17) (ItemsAre (set_done ps) (SetStep rel ps) (nothing_filled ps)) (tag_ok t.tag Universal 17 ok refl)
      (set_only (openings rows) inner rel (λ m d. h m (bare d) tt) heads ps s.apart))
  row_only inner rel h heads (row.SequenceOf of) s t ok =
      own Universal 16 s.opens refl t.tag _ _ (list_only (Allowed rows of.0 None) (inner of.0) (rel of.0) (tag_or t.tag Universal 16) (tag_ok t.tag Universal 16 ok refl) (h of.0 plain tt))
  row_only inner rel h heads (row.SetOf of) s t ok =
      own Universal 17 s.opens refl t.tag _ _ (set_of_only (written rows of.0) (Allowed rows of.0 None) (inner of.0) (rel of.0) (tag_or t.tag Universal 17) (tag_ok t.tag Universal 17 ok refl) (h of.0 plain tt))
  row_only inner rel h heads (row.Choice ps) s t ok =
      or_only (AnyAllows (openings rows) ps) (choice_at (begins rows) inner 0 ps) (ChoiceIs rel ps) t.tag ok (λ c k a. choice_begins ps s.opens c k a) (choice_only (openings rows) inner rel (λ m d. h m (bare d) tt) ps s.apart)
  row_only inner rel h heads (row.Tagged class number true of) s t ok =
      own class number s.opens s.range t.tag _ _ (tagged_only (Allowed rows of.0 None) (inner of.0 (bare t.default)) (rel of.0 (bare t.default)) (tag_or t.tag class number) (tag_ok t.tag class number ok s.range) (h of.0 (bare t.default) tt))
  row_only inner rel h heads (row.Tagged class number false of) s t ok =
      own class number s.opens s.range t.tag _ _ (h of.0 (under (Some (tag_or t.tag class number)) t.default) (tag_ok t.tag class number ok s.range))
  row_only inner rel h heads row.Any s t ok = or_only IsTagged any_at (λ strict. AnyIs) t.tag ok (λ c k a. any_begins s.opens c k a) any_only

  of_only : AreSoundRows rows → (inner : ℕ → Reader) (rel : ℕ → Spelled) → ((m : ℕ) (t : Guise) → OkTag t.tag → Only (Allowed rows m t.tag) (inner m t) (rel m t)) → ((m : ℕ) → AreHeaded (rel m))
      → (o : Option TypeRow) → slice_get rows n ≡ o → (t : Guise) → OkTag t.tag → Only (Allowed rows n t.tag) (of_row dead (read_by (begins rows) (written rows) inner) o t) (λ strict levels v text. RowOr (RowIs (written rows) rel) o t strict levels v text)
  of_only sound inner rel h heads None e t ok = nothing (Allowed rows n t.tag) (dead t)
  of_only sound inner rel h heads (Some r) e t ok = row_only inner rel h heads r (sound_row rows sound n r e) t ok

pub along_only : (rows : List TypeRow) → AreSoundRows rows → (turns n : ℕ) (t : Guise) → OkTag t.tag → Only (Allowed rows n t.tag) (along dead (read_by (begins rows) (written rows)) rows turns n t) (λ strict levels v text. SpelledBy rows turns n t strict levels v text)
along_only rows sound zero n t ok = nothing (Allowed rows n t.tag) (dead t)
along_only rows sound (suc turns) n t ok = of_only rows n sound (along dead (read_by (begins rows) (written rows)) rows turns) (SpelledBy rows turns) (λ m u k. along_only rows sound turns m u k) (λ m. along_headed rows turns m) (slice_get rows n) refl t ok
