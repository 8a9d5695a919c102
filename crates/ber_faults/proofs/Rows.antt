-- Each row: a fault of reading is one by the grammar, and the other way round.
use Rattle.std.proofs.Common.{◌≡◌, ℕ, zero, suc, ◌+◌, Bool, true, false, not, ◌&&◌, List, [], Option, Some, None, refl, sym, ap, ◌∙◌, subst, arith, ℤ}
use Rattle.std.proofs.lemmas.Bool.{and_parts}
use Rattle.std.specs.Prelude.{slice_get}
use Rattle.osi_base.specs.declared.layer_words.Kind.TheVariants.{Tag}
use Rattle.asn1_types.specs.declared.row.Class.{Class}
use Rattle.asn1_types.specs.declared.row.Class.TheVariants.{Universal}
use Rattle.asn1_types.specs.declared.row.Item.{Item}
use Rattle.asn1_types.specs.declared.row.TypeRow.{TypeRow}
use Rattle.asn1_types.specs.declared.row.TypeRow.TheVariants as row
use Rattle.asn1_types.specs.declared.row.Tag as tags
use Rattle.asn1_types.specs.Defaults.{is_default}
use Rattle.asn1_types.specs.Rows.{along, begins, of_row, openings, text_number}
use Rattle.asn1_types.specs.Table.{AreSoundRows}
use Rattle.asn1_types.specs.Tags.{tag_or}
use Rattle.asn1_types.specs.Value.{Value}
use Rattle.asn1_types.specs.Writing.{written}
use Rattle.asn1_types.proofs.Sound.{IsSoundRow, sound_row}
use Rattle.ber_spelling.specs.declared.spot.StringKind.TheVariants.{OfOctets, OfBits}
use Rattle.osi_base.specs.Octets.{AreOctets}
use Rattle.ber_spelling.specs.Reading.{Spot}
use Rattle.ber_spelling.specs.Rules.{Reader, Guise, bare, plain, under, always, boolean_rule, is_strict_boolean, integer_rule, enumerated_rule, null_rule, object_id_rule, is_other, whole_octets, whole_text, whole_bits, has_zero_bits, list_item_at, list_done, set_item_at, set_of_done, slot_at, set_done, nothing_filled, all_items_at, choice_at, any_at, or_explicit, dead, read_by, sequence_at}
use Rattle.ber_spelling.specs.Spelling.{Spelled, SpelledBy, IsOther, ChoiceIs, AnyIs}
use Rattle.ber_spelling.proofs.Steady.{Run, Relation, Found, Only}
use Rattle.ber_spelling.proofs.Sequences.{sequence_body, choice_at_found}
use Rattle.ber_spelling.proofs.SequencesBack.{choice_only}
use Rattle.ber_spelling.proofs.Distinct.{AnyAllows}
use Rattle.ber_spelling.proofs.Heads.{AreHeaded, along_headed}
use Rattle.ber_spelling.proofs.WholeReads.{IsTagged}
use Rattle.ber_spelling.proofs.Anys.{any_found, any_only}
use Rattle.ber_spelling.proofs.Contents.{boolean_sound, boolean_complete, integer_sound, integer_complete, enumerated_sound, enumerated_complete, null_sound, null_complete}
use Rattle.ber_spelling.proofs.Oids.{object_id_sound, object_id_complete}
use Rattle.ber_spelling.proofs.RowLaws.{Allowed, OkTag, along_found, along_only}
use Rattle.ber_faults.specs.Values.{Wrong, WrongAs, BooleanContents, IntegerContents, EnumeratedContents, NullContents, ObjectIdContents, PartsFault, SetFault, ListFault, SetOfFault, ChoiceFault, WholeFault, OrExplicitFault, RowFault}
use Rattle.ber_faults.specs.FirstFault.{NoRowFault, RowFaultOr, FaultBy}
use Rattle.ber_faults.proofs.Readers.{Finds, Tells, refused, refusal_is, primitive_finds, primitive_tells, constructed_finds, constructed_tells}
use Rattle.ber_faults.proofs.Alone.{TellsAlone, alone_of, constructed_alone, explicit_alone, or_alone, choice_alone}
use Rattle.ber_faults.proofs.Strings.{string_finds, string_tells}
use Rattle.ber_faults.proofs.Lists.{list_finds, list_tells, set_of_finds, set_of_tells, explicit_finds, explicit_tells}
use Rattle.ber_faults.proofs.Sequences.{sequence_finds, sequence_tells, choice_finds, choice_tells}
use Rattle.ber_faults.proofs.Sets.{set_finds, set_tells}
use Rattle.ber_faults.proofs.Wholes.{any_finds, any_tells}

-- ---- contents of primitives

not_true : (b : Bool) → not b ≡ true → b ≡ false
not_true true e = absurd cc
not_true false e = refl

other_right : (rule : List ℕ → Option Value) (default : Option ℤ) (strict : Bool) (c : List ℕ) (v : Value) → rule c ≡ Some v → (strict ≡ true → is_other default (rule c) ≡ true) → IsOther default strict v
other_right rule default strict c v e k = λ x. not_true (is_default default v) (subst (λ (o : Option Value). is_other default o ≡ true) e (k x))

other_back : (rule : List ℕ → Option Value) (default : Option ℤ) (strict : Bool) (c : List ℕ) (v : Value) → rule c ≡ Some v → IsOther default strict v → strict ≡ true → is_other default (rule c) ≡ true
other_back rule default strict c v e h x = subst (λ (o : Option Value). is_other default o ≡ true) (sym e) (ap not (h x))

both : {a b : Bool} → a ≡ true → b ≡ true → (a && b) ≡ true
both x y = rw (x, y) refl

abbrev boolean_canonical : Option ℤ → List ℕ → Bool
boolean_canonical default c = is_strict_boolean c && is_other default (boolean_rule c)

module _ (default : Option ℤ) where
  boolean_right : (strict : Bool) (c : List ℕ) (v : Value) → AreOctets c → boolean_rule c ≡ Some v → (strict ≡ true → boolean_canonical default c ≡ true) → BooleanContents default strict c
  boolean_right strict c v are e k =
      (v, boolean_sound strict c v are e (λ x. (and_parts (is_strict_boolean c) (is_other default (boolean_rule c)) (k x)).0), other_right boolean_rule default strict c v e (λ x. (and_parts (is_strict_boolean c) (is_other default (boolean_rule c)) (k x)).1))

  boolean_back : (strict : Bool) (c : List ℕ) → BooleanContents default strict c → (v : Value) × (boolean_rule c ≡ Some v) × (strict ≡ true → boolean_canonical default c ≡ true)
  boolean_back strict c p = let x = boolean_complete strict c p.0 p.1 in (p.0, x.0, λ k. both (x.1 k) (other_back boolean_rule default strict c p.0 x.0 p.2 k))

  integer_right : (low high : ℤ) (strict : Bool) (c : List ℕ) (v : Value) → AreOctets c → integer_rule low high c ≡ Some v → (strict ≡ true → is_other default (integer_rule low high c) ≡ true) → IntegerContents low high default strict c
  integer_right low high strict c v are e k = (v, integer_sound low high c v are e, other_right (integer_rule low high) default strict c v e k)

  integer_back : (low high : ℤ) (strict : Bool) (c : List ℕ) → IntegerContents low high default strict c → (v : Value) × (integer_rule low high c ≡ Some v) × (strict ≡ true → is_other default (integer_rule low high c) ≡ true)
  integer_back low high strict c p = let x = integer_complete low high c p.0 p.1 in (p.0, x, other_back (integer_rule low high) default strict c p.0 x p.2)

  enumerated_right : (items : List Item) (strict : Bool) (c : List ℕ) (v : Value) → AreOctets c → enumerated_rule items c ≡ Some v → (strict ≡ true → is_other default (enumerated_rule items c) ≡ true) → EnumeratedContents items default strict c
  enumerated_right items strict c v are e k = (v, enumerated_sound items c v e, other_right (enumerated_rule items) default strict c v e k)

  enumerated_back : (items : List Item) (strict : Bool) (c : List ℕ) → EnumeratedContents items default strict c → (v : Value) × (enumerated_rule items c ≡ Some v) × (strict ≡ true → is_other default (enumerated_rule items c) ≡ true)
  enumerated_back items strict c p = let x = enumerated_complete items c p.0 p.1 in (p.0, x, other_back (enumerated_rule items) default strict c p.0 x p.2)

null_right : (strict : Bool) (c : List ℕ) (v : Value) → AreOctets c → null_rule c ≡ Some v → (strict ≡ true → always c ≡ true) → NullContents strict c
null_right strict c v are e k = (v, null_sound c v are e)

null_back : (strict : Bool) (c : List ℕ) → NullContents strict c → (v : Value) × (null_rule c ≡ Some v) × (strict ≡ true → always c ≡ true)
null_back strict c p = (p.0, null_complete c p.0 p.1, λ k. refl)

object_id_right : (strict : Bool) (c : List ℕ) (v : Value) → AreOctets c → object_id_rule c ≡ Some v → (strict ≡ true → always c ≡ true) → ObjectIdContents strict c
object_id_right strict c v are e k = (v, object_id_sound c v are e)

object_id_back : (strict : Bool) (c : List ℕ) → ObjectIdContents strict c → (v : Value) × (object_id_rule c ≡ Some v) × (strict ≡ true → always c ≡ true)
object_id_back strict c p = (p.0, object_id_complete c p.0 p.1, λ k. refl)

-- ---- an identifier alone

module _ (rows : List TypeRow) (inner : ℕ → Reader) (rel : ℕ → Spelled) (W : ℕ → WrongAs) (each : (n : ℕ) (t : Guise) → TellsAlone (inner n t) (W n t)) where
  row_alone : (r : TypeRow) (t : Guise) → TellsAlone (read_by (begins rows) (written rows) inner r t) (RowFault (begins rows) (written rows) rel W r t)
  unfolding sequence_at
  row_alone row.Boolean t = alone_of _ _ (primitive_tells boolean_rule (boolean_canonical t.default) (BooleanContents t.default) (boolean_right t.default) (boolean_back t.default) (tag_or t.tag Universal 1))
  row_alone (row.Integer low high) t =
      alone_of _ _ (primitive_tells (integer_rule low high) (λ c. is_other t.default (integer_rule low high c)) (IntegerContents low high t.default) (integer_right t.default low high) (integer_back t.default low high) (tag_or t.tag Universal 2))
  row_alone (row.Enumerated items) t =
      alone_of _ _ (primitive_tells (enumerated_rule items) (λ c. is_other t.default (enumerated_rule items c)) (EnumeratedContents items t.default) (enumerated_right t.default items) (enumerated_back t.default items) (tag_or t.tag Universal 10))
  row_alone row.Null t = alone_of _ _ (primitive_tells null_rule always NullContents null_right null_back (tag_or t.tag Universal 5))
  row_alone (row.OctetString most) t = alone_of _ _ (string_tells OfOctets (whole_octets most) always (tag_or t.tag Universal 4))
  row_alone row.BitString t = alone_of _ _ (string_tells OfBits whole_bits has_zero_bits (tag_or t.tag Universal 3))
  row_alone row.ObjectId t = alone_of _ _ (primitive_tells object_id_rule always ObjectIdContents object_id_right object_id_back (tag_or t.tag Universal 6))
  row_alone (row.Text kind) t = alone_of _ _ (string_tells OfOctets (whole_text kind) always (tag_or t.tag Universal (text_number kind)))
  row_alone (row.Sequence ps) t = constructed_alone (sequence_body (begins rows) inner ps) (tag_or t.tag Universal 16) (λ x b f. PartsFault (begins rows) rel W x ps b f)
  row_alone (row.Set ps) t = constructed_alone (all_items_at (slot_at (begins rows) inner 0 ps) (set_done ps) (nothing_filled ps)) (tag_or t.tag Universal 17) (SetFault (begins rows) rel W ps)
  row_alone (row.SequenceOf of) t = constructed_alone (all_items_at (list_item_at (inner of.0)) list_done []) (tag_or t.tag Universal 16) (ListFault (rel of.0) (W of.0))
  row_alone (row.SetOf of) t = constructed_alone (all_items_at (set_item_at (written rows of.0) (inner of.0)) (set_of_done (written rows of.0)) []) (tag_or t.tag Universal 17) (SetOfFault (written rows of.0) (rel of.0) (W of.0))
  row_alone (row.Choice ps) t = or_alone (choice_at (begins rows) inner 0 ps) (ChoiceIs rel ps) (ChoiceFault (begins rows) W ps) t.tag (choice_alone (begins rows) inner W (λ n. each n plain) 0 ps)
  row_alone (row.Tagged class number true of) t = explicit_alone (inner of.0 (bare t.default)) (rel of.0 (bare t.default)) (W of.0 (bare t.default)) (tag_or t.tag class number)
  row_alone (row.Tagged class number false of) t = each of.0 (under (Some (tag_or t.tag class number)) t.default)
  row_alone row.Any t = or_alone any_at (λ strict. AnyIs) (WholeFault 32) t.tag (alone_of any_at (WholeFault 32) any_tells)

-- ---- what is read is a fault by the grammar

or_finds : (run : Run) (P : Relation) (W : Wrong) (t : Option tags.Tag) → Found run P → Finds run W → Finds (or_explicit run t) (OrExplicitFault P W t)
or_finds run P W None found h = h
or_finds run P W (Some t) found h = explicit_finds run P W t found h

or_tells : (B : Class → ℕ → Type 0) (run : Run) (P : Relation) (W : Wrong) (t : Option tags.Tag) → Only B run P → Tells run W → Tells (or_explicit run t) (OrExplicitFault P W t)
or_tells B run P W None only h = h
or_tells B run P W (Some t) only h = explicit_tells run P W t B only h

dead_finds : (t : Guise) → Finds (dead t) (NoRowFault t)
dead_finds t = record { finds = λ scope o s f ne are here e. refusal_is {A = Value × Spot} o.start.place Tag f e }

dead_tells : (t : Guise) → Tells (dead t) (NoRowFault t)
dead_tells t = record { tells = λ scope o s f are here w. refused {A = Value × Spot} o.start.place Tag f w }

module _ (rows : List TypeRow) (inner : ℕ → Reader) (rel : ℕ → Spelled) (W : ℕ → WrongAs) (finds : (n : ℕ) (t : Guise) → Finds (inner n t) (W n t)) (heads : (n : ℕ) → AreHeaded (rel n)) where
  row_finds : ((n : ℕ) (t : Guise) → Found (inner n t) (rel n t)) → ((n : ℕ) (t : Guise) → TellsAlone (inner n t) (W n t)) → (r : TypeRow) (t : Guise) → Finds (read_by (begins rows) (written rows) inner r t) (RowFault (begins rows) (written rows) rel W r t)
  unfolding sequence_at
  row_finds found single row.Boolean t = primitive_finds boolean_rule (boolean_canonical t.default) (BooleanContents t.default) (boolean_right t.default) (boolean_back t.default) (tag_or t.tag Universal 1)
  row_finds found single (row.Integer low high) t = primitive_finds (integer_rule low high) (λ c. is_other t.default (integer_rule low high c)) (IntegerContents low high t.default) (integer_right t.default low high) (integer_back t.default low high) (tag_or t.tag Universal 2)
  row_finds found single (row.Enumerated items) t = primitive_finds (enumerated_rule items) (λ c. is_other t.default (enumerated_rule items c)) (EnumeratedContents items t.default) (enumerated_right t.default items) (enumerated_back t.default items) (tag_or t.tag Universal 10)
  row_finds found single row.Null t = primitive_finds null_rule always NullContents null_right null_back (tag_or t.tag Universal 5)
  row_finds found single (row.OctetString most) t = string_finds OfOctets (whole_octets most) always (tag_or t.tag Universal 4)
  row_finds found single row.BitString t = string_finds OfBits whole_bits has_zero_bits (tag_or t.tag Universal 3)
  row_finds found single row.ObjectId t = primitive_finds object_id_rule always ObjectIdContents object_id_right object_id_back (tag_or t.tag Universal 6)
  row_finds found single (row.Text kind) t = string_finds OfOctets (whole_text kind) always (tag_or t.tag Universal (text_number kind))
  row_finds found single (row.Sequence ps) t = constructed_finds (sequence_body (begins rows) inner ps) (tag_or t.tag Universal 16) (λ x b f. PartsFault (begins rows) rel W x ps b f) (sequence_finds (begins rows) inner rel W found finds ps)
  row_finds found single (row.Set ps) t =
      constructed_finds (all_items_at (slot_at (begins rows) inner 0 ps) (set_done ps) (nothing_filled ps)) (tag_or t.tag Universal 17) (SetFault (begins rows) rel W ps) (set_finds (begins rows) inner rel W finds single found heads ps)
  row_finds found single (row.SequenceOf of) t =
      constructed_finds (all_items_at (list_item_at (inner of.0)) list_done []) (tag_or t.tag Universal 16) (ListFault (rel of.0) (W of.0)) (list_finds (inner of.0) (rel of.0) (W of.0) (found of.0 plain) (finds of.0 plain))
  row_finds found single (row.SetOf of) t =
      constructed_finds (all_items_at (set_item_at (written rows of.0) (inner of.0)) (set_of_done (written rows of.0)) []) (tag_or t.tag Universal 17) (SetOfFault (written rows of.0) (rel of.0) (W of.0)) (set_of_finds (written rows of.0) (inner of.0) (rel of.0) (W of.0) (found of.0 plain) (finds of.0 plain))
  row_finds found single (row.Choice ps) t =
      or_finds (choice_at (begins rows) inner 0 ps) (ChoiceIs rel ps) (ChoiceFault (begins rows) W ps) t.tag
      (choice_at_found (begins rows) inner rel found ps ps 0 (λ i p e. let none : 0 + i ≡ i = omega arith in ap (slice_get ps) none ∙ e)) (choice_finds (begins rows) inner rel W finds 0 ps)
  row_finds found single (row.Tagged class number true of) t = explicit_finds (inner of.0 (bare t.default)) (rel of.0 (bare t.default)) (W of.0 (bare t.default)) (tag_or t.tag class number) (found of.0 (bare t.default)) (finds of.0 (bare t.default))
  row_finds found single (row.Tagged class number false of) t = finds of.0 (under (Some (tag_or t.tag class number)) t.default)
  row_finds found single row.Any t = or_finds any_at (λ strict. AnyIs) (WholeFault 32) t.tag any_found any_finds

-- Tags of rows that stand under others are no UNIVERSAL 0 where the table is sound.
module _ (rows : List TypeRow) (inner : ℕ → Reader) (rel : ℕ → Spelled) (W : ℕ → WrongAs) (finds : (n : ℕ) (t : Guise) → Finds (inner n t) (W n t)) (single : (n : ℕ) (t : Guise) → TellsAlone (inner n t) (W n t)) (tells : (n : ℕ) (t : Guise) → Tells (inner n t) (W n t)) (heads : (n : ℕ) → AreHeaded (rel n)) (only : (m : ℕ) (t : Guise) → OkTag t.tag → Only (Allowed rows m t.tag) (inner m t) (rel m t)) where
  row_tells : (n : ℕ) (r : TypeRow) → IsSoundRow rows n r → (t : Guise) → Tells (read_by (begins rows) (written rows) inner r t) (RowFault (begins rows) (written rows) rel W r t)
  unfolding sequence_at
  row_tells n row.Boolean s t = primitive_tells boolean_rule (boolean_canonical t.default) (BooleanContents t.default) (boolean_right t.default) (boolean_back t.default) (tag_or t.tag Universal 1)
  row_tells n (row.Integer low high) s t = primitive_tells (integer_rule low high) (λ c. is_other t.default (integer_rule low high c)) (IntegerContents low high t.default) (integer_right t.default low high) (integer_back t.default low high) (tag_or t.tag Universal 2)
  row_tells n (row.Enumerated items) s t = primitive_tells (enumerated_rule items) (λ c. is_other t.default (enumerated_rule items c)) (EnumeratedContents items t.default) (enumerated_right t.default items) (enumerated_back t.default items) (tag_or t.tag Universal 10)
  row_tells n row.Null s t = primitive_tells null_rule always NullContents null_right null_back (tag_or t.tag Universal 5)
  row_tells n (row.OctetString most) s t = string_tells OfOctets (whole_octets most) always (tag_or t.tag Universal 4)
  row_tells n row.BitString s t = string_tells OfBits whole_bits has_zero_bits (tag_or t.tag Universal 3)
  row_tells n row.ObjectId s t = primitive_tells object_id_rule always ObjectIdContents object_id_right object_id_back (tag_or t.tag Universal 6)
  row_tells n (row.Text kind) s t = string_tells OfOctets (whole_text kind) always (tag_or t.tag Universal (text_number kind))
  row_tells n (row.Sequence ps) s t = constructed_tells (sequence_body (begins rows) inner ps) (tag_or t.tag Universal 16) (λ x b f. PartsFault (begins rows) rel W x ps b f) (sequence_tells (begins rows) inner rel W (λ m d. only m (bare d) tt) tells ps)
  row_tells n (row.Set ps) s t =
      constructed_tells (all_items_at (slot_at (begins rows) inner 0 ps) (set_done ps) (nothing_filled ps)) (tag_or t.tag Universal 17) (SetFault (begins rows) rel W ps)
      (set_tells (openings rows) inner rel W finds single tells (λ m d. only m (bare d) tt) heads ps s.apart)
  row_tells n (row.SequenceOf of) s t =
      constructed_tells (all_items_at (list_item_at (inner of.0)) list_done []) (tag_or t.tag Universal 16) (ListFault (rel of.0) (W of.0)) (list_tells (Allowed rows of.0 None) (inner of.0) (rel of.0) (W of.0) (only of.0 plain tt) (tells of.0 plain))
  row_tells n (row.SetOf of) s t =
      constructed_tells (all_items_at (set_item_at (written rows of.0) (inner of.0)) (set_of_done (written rows of.0)) []) (tag_or t.tag Universal 17) (SetOfFault (written rows of.0) (rel of.0) (W of.0))
      (set_of_tells (written rows of.0) (inner of.0) (rel of.0) (W of.0) (Allowed rows of.0 None) (only of.0 plain tt) (tells of.0 plain))
  row_tells n (row.Choice ps) s t =
      or_tells (AnyAllows (openings rows) ps) (choice_at (begins rows) inner 0 ps) (ChoiceIs rel ps) (ChoiceFault (begins rows) W ps) t.tag (choice_only (openings rows) inner rel (λ m d. only m (bare d) tt) ps s.apart) (choice_tells (begins rows) inner rel W tells 0 ps)
  row_tells n (row.Tagged class number true of) s t =
      explicit_tells (inner of.0 (bare t.default)) (rel of.0 (bare t.default)) (W of.0 (bare t.default)) (tag_or t.tag class number) (Allowed rows of.0 None) (only of.0 (bare t.default) tt) (tells of.0 (bare t.default))
  row_tells n (row.Tagged class number false of) s t = tells of.0 (under (Some (tag_or t.tag class number)) t.default)
  row_tells n row.Any s t = or_tells IsTagged any_at (λ strict. AnyIs) (WholeFault 32) t.tag any_only any_tells

-- ---- the table

dead_alone : (t : Guise) → TellsAlone (dead t) (NoRowFault t)
dead_alone t = alone_of (dead t) (NoRowFault t) (dead_tells t)

module _ (rows : List TypeRow) where
  of_alone : (turns : ℕ) → ((m : ℕ) (u : Guise) → TellsAlone (along dead (read_by (begins rows) (written rows)) rows turns m u) (FaultBy rows turns m u)) → (o : Option TypeRow) (t : Guise)
      → TellsAlone (of_row dead (read_by (begins rows) (written rows) (along dead (read_by (begins rows) (written rows)) rows turns)) o t) (RowFaultOr (RowFault (begins rows) (written rows) (SpelledBy rows turns) (FaultBy rows turns)) o t)
  of_alone turns h None t = dead_alone t
  of_alone turns h (Some r) t = row_alone rows (along dead (read_by (begins rows) (written rows)) rows turns) (SpelledBy rows turns) (FaultBy rows turns) h r t

  all_alone : (turns n : ℕ) (t : Guise) → TellsAlone (along dead (read_by (begins rows) (written rows)) rows turns n t) (FaultBy rows turns n t)
  all_alone zero n t = dead_alone t
  all_alone (suc turns) n t = of_alone turns (λ m u. all_alone turns m u) (slice_get rows n) t

  of_finds : (turns : ℕ) → ((m : ℕ) (u : Guise) → Finds (along dead (read_by (begins rows) (written rows)) rows turns m u) (FaultBy rows turns m u)) → (o : Option TypeRow) (t : Guise)
      → Finds (of_row dead (read_by (begins rows) (written rows) (along dead (read_by (begins rows) (written rows)) rows turns)) o t) (RowFaultOr (RowFault (begins rows) (written rows) (SpelledBy rows turns) (FaultBy rows turns)) o t)
  of_finds turns h None t = dead_finds t
  of_finds turns h (Some r) t =
      row_finds rows (along dead (read_by (begins rows) (written rows)) rows turns) (SpelledBy rows turns) (FaultBy rows turns) h (λ m. along_headed rows turns m) (λ m u. along_found rows turns m u) (λ m u. all_alone turns m u) r t

  -- a fault of reading is one by the grammar, whatever the table
  pub row_fault_found : (turns n : ℕ) (t : Guise) → Finds (along dead (read_by (begins rows) (written rows)) rows turns n t) (FaultBy rows turns n t)
  row_fault_found zero n t = dead_finds t
  row_fault_found (suc turns) n t = of_finds turns (λ m u. row_fault_found turns m u) (slice_get rows n) t

module _ (rows : List TypeRow) (sound : AreSoundRows rows) where
  of_tells : (turns : ℕ) → ((m : ℕ) (u : Guise) → Tells (along dead (read_by (begins rows) (written rows)) rows turns m u) (FaultBy rows turns m u)) → (n : ℕ) (o : Option TypeRow) → slice_get rows n ≡ o → (t : Guise)
      → Tells (of_row dead (read_by (begins rows) (written rows) (along dead (read_by (begins rows) (written rows)) rows turns)) o t) (RowFaultOr (RowFault (begins rows) (written rows) (SpelledBy rows turns) (FaultBy rows turns)) o t)
  of_tells turns h n None e t = dead_tells t
  of_tells turns h n (Some r) e t =
      row_tells rows (along dead (read_by (begins rows) (written rows)) rows turns) (SpelledBy rows turns) (FaultBy rows turns) (λ m u. row_fault_found rows turns m u) (λ m u. all_alone rows turns m u) h
      (λ m. along_headed rows turns m) (λ m u ok. along_only rows sound turns m u ok) n r (sound_row rows sound n r e) t

  -- a fault by the grammar is read, row by row down a sound table
  pub row_fault_told : (turns n : ℕ) (t : Guise) → Tells (along dead (read_by (begins rows) (written rows)) rows turns n t) (FaultBy rows turns n t)
  row_fault_told zero n t = dead_tells t
  row_fault_told (suc turns) n t = of_tells turns (λ m u. row_fault_told turns m u) n (slice_get rows n) refl t
