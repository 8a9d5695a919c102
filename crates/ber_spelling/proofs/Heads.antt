-- Each spelling begins with an identifier.
use Rattle.std.proofs.Common.{◌≡◌, ℕ, zero, suc, Bool, true, false, List, [], ◌∷◌, ◌++◌, Option, Some, None, sym, ap, ◌∙◌, subst, append_assoc, ◌⊎◌, inl, inr}
use Rattle.std.specs.Prelude.{slice_get}
use Rattle.asn1_types.specs.declared.row.Class.{Class}
use Rattle.asn1_types.specs.declared.row.Class.TheVariants.{Universal}
use Rattle.asn1_types.specs.declared.row.Part.{Part}
use Rattle.asn1_types.specs.declared.row.TypeRow.{TypeRow}
use Rattle.asn1_types.specs.declared.row.TypeRow.TheVariants as row
use Rattle.asn1_types.specs.Rows.{text_number}
use Rattle.asn1_types.specs.Value.{Value, boolean, integer, null, octets, bits, object_id, text, parts, list, chosen, any}
use Rattle.asn1_types.specs.declared.row.Tag as tags
use Rattle.asn1_types.specs.Tags.{front_rank, tag_or}
use Rattle.ber_spelling.specs.declared.spot.StringKind.{StringKind}
use Rattle.ber_spelling.specs.declared.spot.StringKind.TheVariants.{OfOctets, OfBits}
use Rattle.ber_spelling.specs.declared.spot.Gathered.{Gathered}
use Rattle.ber_spelling.specs.Rules.{always, string_rule, nothing, whole_octets, whole_text, whole_bits, has_zero_bits, Guise, bare, plain, under}
use Rattle.ber_spelling.specs.Spelling.{IsOther, IsIdentifier, IsDefinite, IsIndefinite, IsPrimitive, IsConstructed, BooleanIs, IntegerIs, EnumeratedIs, NullIs, ObjectIdIs, IsWhole, AnyIs, Spelled, ItemsAre, SegmentIs, StringIs, SequenceIs, SetIs, ListIs, ChoiceIs, OrExplicit, RowIs, RowOr, SpelledBy, SetOfIs}
use Rattle.ber_spelling.proofs.Orders.{front_head}
use Rattle.asn1_types.specs.Writing.{written}

pub record Headed (s : List ℕ) : Type 0 where
  pub class : Class
  pub constructed : Bool
  pub number : ℕ
  pub head : List ℕ
  pub tail : List ℕ
  pub is_identifier : IsIdentifier class constructed number head
  pub are : s ≡ head ++ tail

-- what follows doesn't change the tag
pub headed_rank : (s more : List ℕ) → Headed s → front_rank (s ++ more) ≡ front_rank s
headed_rank s more h =
    ap (λ (x : List ℕ). front_rank (x ++ more)) h.are ∙ ap front_rank (append_assoc h.head h.tail more)
    ∙ front_head h.class h.constructed h.number h.head (h.tail ++ more) h.is_identifier
    ∙ sym (front_head h.class h.constructed h.number h.head h.tail h.is_identifier) ∙ ap front_rank (sym h.are)

primitive_headed : (tag : tags.Tag) (strict : Bool) (levels : ℕ) (P : List ℕ → Type 0) (s : List ℕ) → IsPrimitive tag strict levels P s → Headed s
primitive_headed tag strict levels P s p =
    record { class = tag.class; constructed = false; number = tag.number; head = p.form.head; tail = p.form.size ++ p.form.contents; is_identifier = p.form.is_identifier; are = p.form.are }

constructed_headed : (tag : tags.Tag) (strict : Bool) (levels : ℕ) (P : ℕ → List ℕ → Type 0) (s : List ℕ) → IsConstructed tag strict levels P s → Headed s
constructed_headed tag strict levels P s p = by_form p.form
  where
    by_form : IsDefinite strict true tag (P p.inner) s ⊎ ((strict ≡ false) × IsIndefinite tag (P p.inner) s) → Headed s
    by_form (inl d) = record { class = tag.class; constructed = true; number = tag.number; head = d.head; tail = d.size ++ d.contents; is_identifier = d.is_identifier; are = d.are }
    by_form (inr i) = record { class = tag.class; constructed = true; number = tag.number; head = i.1.head; tail = 128 ∷ (i.1.contents ++ (0 ∷ 0 ∷ [])); is_identifier = i.1.is_identifier; are = i.1.are }

string_headed : (kind : StringKind) (whole : Gathered → Option Value) (canonical : List ℕ → Bool) (tag : tags.Tag) (strict : Bool) (levels : ℕ) (v : Value) (s : List ℕ) → StringIs kind whole canonical tag strict levels v s → Headed s
string_headed kind whole canonical tag strict levels v s (inl p) = primitive_headed tag strict levels (λ c. (string_rule kind whole c ≡ Some v) × (strict ≡ true → canonical c ≡ true)) s p
string_headed kind whole canonical tag strict levels v s (inr p) = constructed_headed tag strict levels (λ inner contents. ItemsAre (λ (g : Gathered). Some g) (SegmentIs kind 32) nothing strict inner p.1 contents) s p.3

pub record AreHeaded (rel : Spelled) : Type 0 where
  pub is : (t : Guise) (strict : Bool) (levels : ℕ) (v : Value) (s : List ℕ) → rel t strict levels v s → Headed s

whole_headed : (inner : ℕ) (os : List ℕ) → IsWhole (suc inner) os → Headed os
whole_headed inner os (inl w) = record { class = w.class; constructed = w.constructed; number = w.number; head = w.head; tail = w.size ++ w.contents; is_identifier = w.is_identifier; are = w.are }
whole_headed inner os (inr w) = record { class = w.class; constructed = true; number = w.number; head = w.head; tail = 128 ∷ (w.contents ++ (0 ∷ 0 ∷ [])); is_identifier = w.is_identifier; are = w.are }

any_headed : (levels : ℕ) (v : Value) (s : List ℕ) → AnyIs levels v s → Headed s
any_headed levels (any os) s p = subst Headed (sym p.1) (whole_headed 31 os p.2)
any_headed levels (boolean x) s p = absurd p
any_headed levels (integer x) s p = absurd p
any_headed levels null s p = absurd p
any_headed levels (octets x) s p = absurd p
any_headed levels (bits x n) s p = absurd p
any_headed levels (object_id x) s p = absurd p
any_headed levels (text x) s p = absurd p
any_headed levels (parts x) s p = absurd p
any_headed levels (list x) s p = absurd p
any_headed levels (chosen n x) s p = absurd p

explicit_headed : (P : Bool → ℕ → Value → List ℕ → Type 0) → ((strict : Bool) (levels : ℕ) (v : Value) (s : List ℕ) → P strict levels v s → Headed s) → (t : Option tags.Tag) (strict : Bool) (levels : ℕ) (v : Value) (s : List ℕ) → OrExplicit P t strict levels v s → Headed s
explicit_headed P each None strict levels v s p = each strict levels v s p
explicit_headed P each (Some t) strict levels v s p = constructed_headed t strict levels (λ inner contents. P strict inner v contents) s p

module _ (spell : ℕ → Value → List ℕ) (rel : ℕ → Spelled) (each : (m : ℕ) → AreHeaded (rel m)) where
  chosen_headed : (ps : List Part) (strict : Bool) (levels : ℕ) (v : Value) (s : List ℕ) → ChoiceIs rel ps strict levels v s → Headed s
  chosen_headed ps strict levels (chosen which v) s p = (each p.0.inner.0).is plain strict levels v s p.2
  chosen_headed ps strict levels (boolean x) s p = absurd p
  chosen_headed ps strict levels (integer x) s p = absurd p
  chosen_headed ps strict levels null s p = absurd p
  chosen_headed ps strict levels (octets x) s p = absurd p
  chosen_headed ps strict levels (bits x n) s p = absurd p
  chosen_headed ps strict levels (object_id x) s p = absurd p
  chosen_headed ps strict levels (text x) s p = absurd p
  chosen_headed ps strict levels (parts x) s p = absurd p
  chosen_headed ps strict levels (list x) s p = absurd p
  chosen_headed ps strict levels (any x) s p = absurd p

  row_headed : (r : TypeRow) (t : Guise) (strict : Bool) (levels : ℕ) (v : Value) (s : List ℕ) → RowIs spell rel r t strict levels v s → Headed s
  row_headed row.Boolean t strict levels v s p = primitive_headed (tag_or t.tag Universal 1) strict levels (λ c. BooleanIs strict v c × IsOther t.default strict v) s p
  row_headed (row.Integer low high) t strict levels v s p = primitive_headed (tag_or t.tag Universal 2) strict levels (λ c. IntegerIs low high v c × IsOther t.default strict v) s p
  row_headed (row.Enumerated items) t strict levels v s p = primitive_headed (tag_or t.tag Universal 10) strict levels (λ c. EnumeratedIs items v c × IsOther t.default strict v) s p
  row_headed row.Null t strict levels v s p = primitive_headed (tag_or t.tag Universal 5) strict levels (NullIs v) s p
  row_headed (row.OctetString most) t strict levels v s p = string_headed OfOctets (whole_octets most) always (tag_or t.tag Universal 4) strict levels v s p
  row_headed row.BitString t strict levels v s p = string_headed OfBits whole_bits has_zero_bits (tag_or t.tag Universal 3) strict levels v s p
  row_headed row.ObjectId t strict levels v s p = primitive_headed (tag_or t.tag Universal 6) strict levels (ObjectIdIs v) s p
  row_headed (row.Text kind) t strict levels v s p = string_headed OfOctets (whole_text kind) always (tag_or t.tag Universal (text_number kind)) strict levels v s p
  row_headed (row.Sequence ps) t strict levels v s p = constructed_headed (tag_or t.tag Universal 16) strict levels (SequenceIs rel strict ps v) s p
  row_headed (row.Set ps) t strict levels v s p = constructed_headed (tag_or t.tag Universal 17) strict levels (SetIs rel ps strict v) s p
  row_headed (row.SequenceOf of) t strict levels v s p = constructed_headed (tag_or t.tag Universal 16) strict levels (ListIs (rel of.0) strict v) s p
  row_headed (row.SetOf of) t strict levels v s p = constructed_headed (tag_or t.tag Universal 17) strict levels (SetOfIs (spell of.0) (rel of.0) strict v) s p
  row_headed (row.Choice ps) t strict levels v s p = explicit_headed (ChoiceIs rel ps) (chosen_headed ps) t.tag strict levels v s p
  row_headed (row.Tagged class number true of) t strict levels v s p = constructed_headed (tag_or t.tag class number) strict levels (λ l contents. rel of.0 (bare t.default) strict l v contents) s p
  row_headed (row.Tagged class number false of) t strict levels v s p = (each of.0).is (under (Some (tag_or t.tag class number)) t.default) strict levels v s p
  row_headed row.Any t strict levels v s p = explicit_headed (λ strict. AnyIs) (λ strict. any_headed) t.tag strict levels v s p

  or_headed : (o : Option TypeRow) (t : Guise) (strict : Bool) (levels : ℕ) (v : Value) (s : List ℕ) → RowOr (RowIs spell rel) o t strict levels v s → Headed s
  or_headed None t strict levels v s p = absurd p
  or_headed (Some r) t strict levels v s p = row_headed r t strict levels v s p

pub along_headed : (rows : List TypeRow) (turns n : ℕ) → AreHeaded (SpelledBy rows turns n)
along_headed rows zero n = record { is = λ t strict levels v s p. absurd p }
along_headed rows (suc turns) n = record { is = λ t strict levels v s p. or_headed (written rows) (SpelledBy rows turns) (λ m. along_headed rows turns m) (slice_get rows n) t strict levels v s p }
