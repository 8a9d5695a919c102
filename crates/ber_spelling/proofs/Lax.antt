-- DER is a part of BER: what is spelled in DER is spelled so in BER.
use Rattle.std.proofs.Common.{◌≡◌, ℕ, zero, suc, Bool, true, false, List, [], ◌∷◌, length, Option, Some, None, inl, inr, ℤ}
use Rattle.std.specs.Prelude.{slice_get}
use Rattle.asn1_types.specs.declared.row.Class.TheVariants.{Universal}
use Rattle.asn1_types.specs.declared.row.Part.{Part}
use Rattle.asn1_types.specs.declared.row.TypeRow.{TypeRow}
use Rattle.asn1_types.specs.declared.row.TypeRow.TheVariants as row
use Rattle.asn1_types.specs.Rows.{text_number}
use Rattle.asn1_types.specs.Value.{Value, boolean, integer, null, octets, bits, object_id, text, parts, list, chosen, any, MaybeValues, no_parts, absent, present}
use Rattle.asn1_types.specs.declared.row.Tag as tags
use Rattle.asn1_types.specs.Tags.{tag_or}
use Rattle.ber_spelling.specs.declared.spot.StringKind.{StringKind}
use Rattle.ber_spelling.specs.declared.spot.StringKind.TheVariants.{OfOctets, OfBits}
use Rattle.ber_spelling.specs.declared.spot.Gathered.{Gathered}
use Rattle.ber_spelling.specs.Rules.{always, string_rule, whole_octets, whole_text, whole_bits, has_zero_bits, nothing_filled, Guise, bare, plain, under}
use Rattle.ber_spelling.specs.Order.{Filled}
use Rattle.ber_spelling.specs.Spelling.{IsLength, IsDefinite, IsPrimitive, IsConstructed, BooleanIs, IntegerIs, EnumeratedIs, NullIs, ObjectIdIs, AnyIs, Spelled, Steps, StringIs, PartsAre, SequenceIs, ListStep, ListIs, SetStep, SetIs, ChoiceIs, OrExplicit, RowIs, RowOr, SpelledBy, PartIs, IsOther, SetOfIs, SetItemStep}
use Rattle.ber_spelling.specs.Laws.{DerIsBer}
use Rattle.asn1_types.specs.Writing.{written}

pub lax_length : (size : List ℕ) (n : ℕ) → IsLength true size n → IsLength false size n
lax_length [] n h = absurd h
lax_length (first ∷ digits) n (inl h) = inl h
lax_length (first ∷ digits) n (inr h) = inr (record { size = h.size; some = h.some; few = h.few; number = h.number; shortest = λ e. absurd (let wrong : false ≡ true = e in cc) })

lax_definite : (constructed : Bool) (tag : tags.Tag) (P Q : List ℕ → Type 0) → ((c : List ℕ) → P c → Q c) → (s : List ℕ) → IsDefinite true constructed tag P s → IsDefinite false constructed tag Q s
lax_definite constructed tag P Q f s h = record {
  head = h.head;
  size = h.size;
  contents = h.contents;
  is_identifier = h.is_identifier;
  is_length = lax_length h.size (length h.contents) h.is_length;
  holds = f h.contents h.holds;
  are = h.are;
}

lax_primitive : (tag : tags.Tag) (levels : ℕ) (P Q : List ℕ → Type 0) → ((c : List ℕ) → P c → Q c) → (s : List ℕ) → IsPrimitive tag true levels P s → IsPrimitive tag false levels Q s
lax_primitive tag levels P Q f s h = record { level = h.level; small = h.small; form = lax_definite false tag P Q f s h.form }

lax_constructed : (tag : tags.Tag) (levels : ℕ) (P Q : ℕ → List ℕ → Type 0) → ((l : ℕ) (c : List ℕ) → P l c → Q l c) → (s : List ℕ) → IsConstructed tag true levels P s → IsConstructed tag false levels Q s
lax_constructed tag levels P Q f s h = record {
  inner = h.inner;
  level = h.level;
  small = h.small;
  form = elim h.form [
    | inl d ↦ inl (lax_definite true tag (P h.inner) (Q h.inner) (f h.inner) s d)
    | inr i ↦ absurd (let wrong : true ≡ false = i.0 in cc)
  ];
}

pub record Lax (rel : Spelled) : Type 0 where
  pub is : (t : Guise) (levels : ℕ) (v : Value) (s : List ℕ) → rel t true levels v s → rel t false levels v s

boolean_lax : (v : Value) (c : List ℕ) → BooleanIs true v c → BooleanIs false v c
boolean_lax (boolean b) c h = (h.0, h.1, h.2, λ e. absurd (let wrong : false ≡ true = e in cc))
boolean_lax null c h = absurd h
boolean_lax (integer z) c h = absurd h
boolean_lax (octets os) c h = absurd h
boolean_lax (bits os n) c h = absurd h
boolean_lax (object_id os) c h = absurd h
boolean_lax (text os) c h = absurd h
boolean_lax (parts ps) c h = absurd h
boolean_lax (list vs) c h = absurd h
boolean_lax (chosen n v) c h = absurd h
boolean_lax (any os) c h = absurd h

string_lax : (kind : StringKind) (whole : Gathered → Option Value) (canonical : List ℕ → Bool) (tag : tags.Tag) (levels : ℕ) (v : Value) (s : List ℕ) → StringIs kind whole canonical tag true levels v s → StringIs kind whole canonical tag false levels v s
string_lax kind whole canonical tag levels v s (inl h) =
    inl (lax_primitive tag levels (λ c. (string_rule kind whole c ≡ Some v) × (true ≡ true → canonical c ≡ true)) (λ c. (string_rule kind whole c ≡ Some v) × (false ≡ true → canonical c ≡ true)) (λ c p. (p.0, λ e. absurd (let wrong : false ≡ true = e in cc))) s h)
string_lax kind whole canonical tag levels v s (inr h) = absurd (let wrong : true ≡ false = h.0 in cc)

other_lax : (default : Option ℤ) (v : Value) → IsOther default false v
other_lax default v = λ e. absurd (let wrong : false ≡ true = e in cc)

module _ (spell : ℕ → Value → List ℕ) (rel : ℕ → Spelled) (h : (m : ℕ) → Lax (rel m)) where
  part_lax : (levels : ℕ) (p : Part) (o : Option Value) (s : List ℕ) → PartIs (rel p.inner.0) true levels p o s → PartIs (rel p.inner.0) false levels p o s
  part_lax levels p o s (inl x) = inl x
  part_lax levels p o s (inr x) = inr (x.0, x.1, (h p.inner.0).is (bare p.default) levels x.0 s x.2)

  parts_lax : (levels : ℕ) (ps : List Part) (vs : MaybeValues) (c : List ℕ) → PartsAre rel true levels ps vs c → PartsAre rel false levels ps vs c
  parts_lax levels [] no_parts c p = p
  parts_lax levels [] (absent vs) c p = absurd p
  parts_lax levels [] (present v vs) c p = absurd p
  parts_lax levels (q ∷ qs) no_parts c p = absurd p
  parts_lax levels (q ∷ qs) (absent vs) c p = (p.0, p.1, p.2, part_lax levels q None p.0 p.3, parts_lax levels qs vs p.1 p.4)
  parts_lax levels (q ∷ qs) (present v vs) c p = (p.0, p.1, p.2, part_lax levels q (Some v) p.0 p.3, parts_lax levels qs vs p.1 p.4)

  sequence_lax : (ps : List Part) (v : Value) (levels : ℕ) (c : List ℕ) → SequenceIs rel true ps v levels c → SequenceIs rel false ps v levels c
  sequence_lax ps (parts vs) levels c p = parts_lax levels ps vs c p
  sequence_lax ps null levels c p = absurd p
  sequence_lax ps (integer z) levels c p = absurd p
  sequence_lax ps (boolean b) levels c p = absurd p
  sequence_lax ps (octets os) levels c p = absurd p
  sequence_lax ps (bits os n) levels c p = absurd p
  sequence_lax ps (object_id os) levels c p = absurd p
  sequence_lax ps (text os) levels c p = absurd p
  sequence_lax ps (list vs) levels c p = absurd p
  sequence_lax ps (chosen n v) levels c p = absurd p
  sequence_lax ps (any os) levels c p = absurd p

  steps_lax : (of levels : ℕ) (steps : List (List ℕ × List Value)) (a b : List Value) (c : List ℕ)
      → Steps (λ x y spelled. ListStep (rel of) x true levels y spelled) steps a b c → Steps (λ x y spelled. ListStep (rel of) x false levels y spelled) steps a b c
  steps_lax of levels [] a b c p = p
  steps_lax of levels (s ∷ more) a b c p = (p.0, p.1, (p.2.0, p.2.1, (h of).is plain levels p.2.0 s.0 p.2.2), steps_lax of levels more s.1 b p.0 p.3)

  items_lax : (of levels : ℕ) (steps : List (List ℕ × List Value)) (a b : List Value) (c : List ℕ)
      → Steps (λ x y spelled. SetItemStep (spell of) (rel of) x true levels y spelled) steps a b c → Steps (λ x y spelled. SetItemStep (spell of) (rel of) x false levels y spelled) steps a b c
  items_lax of levels [] a b c p = p
  items_lax of levels (s ∷ more) a b c p =
      (p.0, p.1, (p.2.0, p.2.1, (h of).is plain levels p.2.0 s.0 p.2.2, λ e. absurd (let wrong : false ≡ true = e in cc)), items_lax of levels more s.1 b p.0 p.3)

  set_steps_lax : (ps : List Part) (levels : ℕ) (steps : List (List ℕ × Filled)) (a b : Filled) (c : List ℕ)
      → Steps (λ x y spelled. SetStep rel ps x true levels y spelled) steps a b c → Steps (λ x y spelled. SetStep rel ps x false levels y spelled) steps a b c
  set_steps_lax ps levels [] a b c p = p
  set_steps_lax ps levels (s ∷ more) a b c p =
      let q = p.2 in
      (p.0, p.1, (q.0, q.1, q.2, q.3, q.4, (h q.1.inner.0).is (bare q.1.default) levels q.2 s.0 q.5, (λ e. absurd (let wrong : false ≡ true = e in cc)), q.7), set_steps_lax ps levels more s.1 b p.0 p.3)

  chosen_lax : (ps : List Part) (levels : ℕ) (v : Value) (s : List ℕ) → ChoiceIs rel ps true levels v s → ChoiceIs rel ps false levels v s
  chosen_lax ps levels (chosen which v) s p = (p.0, p.1, (h p.0.inner.0).is plain levels v s p.2)
  chosen_lax ps levels null s p = absurd p
  chosen_lax ps levels (integer z) s p = absurd p
  chosen_lax ps levels (boolean b) s p = absurd p
  chosen_lax ps levels (octets os) s p = absurd p
  chosen_lax ps levels (bits os n) s p = absurd p
  chosen_lax ps levels (object_id os) s p = absurd p
  chosen_lax ps levels (text os) s p = absurd p
  chosen_lax ps levels (parts qs) s p = absurd p
  chosen_lax ps levels (list vs) s p = absurd p
  chosen_lax ps levels (any os) s p = absurd p

  or_lax : (P : Bool → ℕ → Value → List ℕ → Type 0) → ((l : ℕ) (v : Value) (s : List ℕ) → P true l v s → P false l v s) → (t : Option tags.Tag) (levels : ℕ) (v : Value) (s : List ℕ) → OrExplicit P t true levels v s → OrExplicit P t false levels v s
  or_lax P f None levels v s p = f levels v s p
  or_lax P f (Some t) levels v s p = lax_constructed t levels (λ l c. P true l v c) (λ l c. P false l v c) (λ l c. f l v c) s p

  row_lax : (r : TypeRow) (t : Guise) (levels : ℕ) (v : Value) (s : List ℕ) → RowIs spell rel r t true levels v s → RowIs spell rel r t false levels v s
  row_lax row.Boolean t levels v s p = lax_primitive (tag_or t.tag Universal 1) levels (λ c. BooleanIs true v c × IsOther t.default true v) (λ c. BooleanIs false v c × IsOther t.default false v) (λ c q. (boolean_lax v c q.0, other_lax t.default v)) s p
  row_lax (row.Integer low high) t levels v s p = lax_primitive (tag_or t.tag Universal 2) levels (λ c. IntegerIs low high v c × IsOther t.default true v) (λ c. IntegerIs low high v c × IsOther t.default false v) (λ c q. (q.0, other_lax t.default v)) s p
  row_lax (row.Enumerated items) t levels v s p = lax_primitive (tag_or t.tag Universal 10) levels (λ c. EnumeratedIs items v c × IsOther t.default true v) (λ c. EnumeratedIs items v c × IsOther t.default false v) (λ c q. (q.0, other_lax t.default v)) s p
  row_lax row.Null t levels v s p = lax_primitive (tag_or t.tag Universal 5) levels (NullIs v) (NullIs v) (λ c q. q) s p
  row_lax (row.OctetString most) t levels v s p = string_lax OfOctets (whole_octets most) always (tag_or t.tag Universal 4) levels v s p
  row_lax row.BitString t levels v s p = string_lax OfBits whole_bits has_zero_bits (tag_or t.tag Universal 3) levels v s p
  row_lax row.ObjectId t levels v s p = lax_primitive (tag_or t.tag Universal 6) levels (ObjectIdIs v) (ObjectIdIs v) (λ c q. q) s p
  row_lax (row.Text kind) t levels v s p = string_lax OfOctets (whole_text kind) always (tag_or t.tag Universal (text_number kind)) levels v s p
  row_lax (row.Sequence ps) t levels v s p = lax_constructed (tag_or t.tag Universal 16) levels (SequenceIs rel true ps v) (SequenceIs rel false ps v) (λ l c. sequence_lax ps v l c) s p
  row_lax (row.Set ps) t levels v s p =
      lax_constructed (tag_or t.tag Universal 17) levels (SetIs rel ps true v) (SetIs rel ps false v) (λ l c q. (q.0, q.1, q.2, set_steps_lax ps l q.2 (nothing_filled ps) q.0 c q.3)) s p
  row_lax (row.SequenceOf of) t levels v s p =
      lax_constructed (tag_or t.tag Universal 16) levels (ListIs (rel of.0) true v) (ListIs (rel of.0) false v) (λ l c q. (q.0, q.1, q.2, steps_lax of.0 l q.2 [] q.0 c q.3)) s p
  row_lax (row.SetOf of) t levels v s p =
      lax_constructed (tag_or t.tag Universal 17) levels (SetOfIs (spell of.0) (rel of.0) true v) (SetOfIs (spell of.0) (rel of.0) false v) (λ l c q. (q.0, q.1, q.2, items_lax of.0 l q.2 [] q.0 c q.3)) s p
  row_lax (row.Choice ps) t levels v s p = or_lax (ChoiceIs rel ps) (λ l w c. chosen_lax ps l w c) t.tag levels v s p
  row_lax (row.Tagged class number true of) t levels v s p =
      lax_constructed (tag_or t.tag class number) levels (λ l c. rel of.0 (bare t.default) true l v c) (λ l c. rel of.0 (bare t.default) false l v c) (λ l c. (h of.0).is (bare t.default) l v c) s p
  row_lax (row.Tagged class number false of) t levels v s p = (h of.0).is (under (Some (tag_or t.tag class number)) t.default) levels v s p
  row_lax row.Any t levels v s p = or_lax (λ strict. AnyIs) (λ l w c q. q) t.tag levels v s p

  of_lax : (o : Option TypeRow) (t : Guise) (levels : ℕ) (v : Value) (s : List ℕ) → RowOr (RowIs spell rel) o t true levels v s → RowOr (RowIs spell rel) o t false levels v s
  of_lax None t levels v s p = absurd p
  of_lax (Some r) t levels v s p = row_lax r t levels v s p

along_lax : (rows : List TypeRow) (turns n : ℕ) → Lax (λ t strict levels v s. SpelledBy rows turns n t strict levels v s)
along_lax rows zero n = record { is = λ t levels v s p. absurd p }
along_lax rows (suc turns) n = record { is = λ t levels v s p. of_lax (written rows) (SpelledBy rows turns) (λ m. along_lax rows turns m) (slice_get rows n) t levels v s p }

pub der_is_ber : DerIsBer
der_is_ber rows n limit v s p = record { by = (along_lax rows (length rows) n).is plain 32 v s p.by; within = p.within }
