-- A value has one spelling in DER: what is spelled is what is written.
use Rattle.std.proofs.Common.{◌≡◌, ℕ, zero, suc, ◌+◌, ◌<◌, ◌≤◌, ◌⊎◌, ℤ, Bool, true, false, not, cond, List, [], ◌∷◌, ◌++◌, length, Option, Some, None, refl, sym, ap, ◌∙◌, subst, arith, append_assoc, append-nil, inl, inr}
use Rattle.std.specs.Prelude.{slice_get, slice_set, nat_le, nat_eq}
use Rattle.std.proofs.lemmas.Bool.{and_parts}
use Rattle.osi_base.specs.Limits.{most_levels}
use Rattle.asn1_types.specs.declared.row.Class.TheVariants.{Universal}
use Rattle.asn1_types.specs.declared.row.Part.{Part}
use Rattle.asn1_types.specs.declared.row.Item.{Item}
use Rattle.asn1_types.specs.declared.row.TextKind.{TextKind}
use Rattle.asn1_types.specs.declared.row.TypeRow.{TypeRow}
use Rattle.asn1_types.specs.declared.row.TypeRow.TheVariants as row
use Rattle.asn1_types.specs.declared.row.Tag as tags
use Rattle.asn1_types.specs.Rows.{along, of_row, text_number}
use Rattle.asn1_types.specs.Tags.{tag_or, ranks, front_rank}
use Rattle.asn1_types.specs.Defaults.{is_default}
use Rattle.asn1_types.specs.Fits.{is_text}
use Rattle.asn1_types.specs.Value.{Value, boolean, integer, null, octets, bits, object_id, text, parts, list, chosen, any, MaybeValues, no_parts, absent, present}
use Rattle.asn1_types.specs.ValueView.{values_of, parts_of, empty_slots}
use Rattle.asn1_types.specs.Rising.{behind_last, sorted, follows, rise_behind, rise}
use Rattle.asn1_types.specs.Writing.{Writer, subidentifiers, definite, boolean_octet, boolean_contents, integer_contents, octets_contents, text_contents, bits_contents, object_id_contents, part_contents, parts_contents, sequence_contents, risen_parts, set_parts, values_contents, list_contents, alternative_written, choice_written, any_written, under, write_by, nothing_written, writes, written}
use Rattle.ber_spelling.specs.declared.spot.StringKind.TheVariants.{OfOctets, OfBits}
use Rattle.osi_base.specs.Octets.{AreOctets}
use Rattle.osi_base.proofs.OctetLaws.{octets_left, octets_right}
use Rattle.ber_spelling.specs.declared.spot.StringKind.{StringKind}
use Rattle.ber_spelling.specs.declared.spot.Gathered.{Gathered}
use Rattle.ber_spelling.specs.Order.{Filled}
use Rattle.ber_spelling.specs.Rules.{Guise, bare, plain, under as guised, always, string_rule, whole_octets, whole_text, whole_bits, has_zero_bits, nothing_filled, is_filled, settled}
use Rattle.ber_spelling.specs.Spelling.{Spelled, IsDefinite, IsPrimitive, IsIndefinite, IsConstructed, BooleanIs, IntegerIs, EnumeratedIs, NullIs, ObjectIdIs, AnyIs, Steps, ListStep, ListIs, SetItemStep, SetOfIs, SetStep, SetIs, StringIs, PartIs, PartsAre, SequenceIs, ChoiceIs, OrExplicit, IsOther, RowIs, RowOr, SpelledBy, Spells}
use Rattle.ber_spelling.proofs.Written.{bits_ruled}
use Rattle.ber_spelling.proofs.Orders.{front_below}
use Rattle.ber_spelling.proofs.RisingLaws.{items_in, rising_sorted}
use Rattle.ber_spelling.proofs.UniqueSets.{Found, none_found, settled_same, found_more, none_risen, risen_more}
use Rattle.ber_spelling.proofs.UniqueDigits.{small_of, unique_identifier, unique_length, unique_integer, unique_subidentifiers}

-- what octets spell as a value of a row in DER is what is written of it, and isn't its default's
pub record OneDer (rel : Spelled) (write : Writer) : Type 0 where
  pub is : (g : Guise) (levels : ℕ) (v : Value) (s : List ℕ) → AreOctets s → rel g true levels v s → (s ≡ write g.tag v) × (is_default g.default v ≡ false)

-- ---- identifier, length, contents

record Defined (constructed : Bool) (tag : tags.Tag) (P : List ℕ → Type 0) (s : List ℕ) : Type 0 where
  contents : List ℕ
  are : s ≡ definite constructed tag contents
  holds : P contents
  small : AreOctets contents

defined : (constructed : Bool) (tag : tags.Tag) (P : List ℕ → Type 0) (s : List ℕ) → AreOctets s → IsDefinite true constructed tag P s → Defined constructed tag P s
defined constructed tag P s o p =
    let all : AreOctets (p.head ++ (p.size ++ p.contents)) = subst AreOctets p.are o in
    let back : AreOctets (p.size ++ p.contents) = octets_right p.head (p.size ++ p.contents) all in
    let size = unique_length p.size (length p.contents) (small_of p.size (octets_left p.size p.contents back)) p.is_length in
    let head = unique_identifier tag.class constructed tag.number p.head p.is_identifier in
    record {
      contents = p.contents;
      are = p.are ∙ (λ i. head i ++ (size i ++ p.contents));
      holds = p.holds;
      small = octets_right p.size p.contents back;
    }

-- contents that are those written, in a spelling that is the one written
inside : (B : Type 0) (constructed : Bool) (tag : tags.Tag) (P : List ℕ → Type 0) (s c : List ℕ) → AreOctets s → IsDefinite true constructed tag P s → ((d : List ℕ) → AreOctets d → P d → (d ≡ c) × B) → (s ≡ definite constructed tag c) × B
inside B constructed tag P s c o p k =
    let d = defined constructed tag P s o p in
    let h = k d.contents d.small d.holds in
    (d.are ∙ ap (definite constructed tag) h.0, h.1)

primitive_one : (B : Type 0) (tag : tags.Tag) (levels : ℕ) (P : List ℕ → Type 0) (s c : List ℕ) → AreOctets s → IsPrimitive tag true levels P s → ((d : List ℕ) → AreOctets d → P d → (d ≡ c) × B) → (s ≡ definite false tag c) × B
primitive_one B tag levels P s c o p k = inside B false tag P s c o p.form k

constructed_one : (B : Type 0) (tag : tags.Tag) (levels : ℕ) (P : ℕ → List ℕ → Type 0) (s c : List ℕ) → AreOctets s → IsConstructed tag true levels P s → ((l : ℕ) (d : List ℕ) → AreOctets d → P l d → (d ≡ c) × B) → (s ≡ definite true tag c) × B
constructed_one B tag levels P s c o p k = by_form p.form
  where
    by_form : IsDefinite true true tag (P p.inner) s ⊎ ((true ≡ false) × IsIndefinite tag (P p.inner) s) → (s ≡ definite true tag c) × B
    by_form (inl f) = inside B true tag (P p.inner) s c o f (k p.inner)
    by_form (inr f) = let wrong : true ≡ false = f.0 in absurd cc

-- ---- contents of primitive values

boolean_one : (v : Value) (c : List ℕ) → BooleanIs true v c → c ≡ boolean_contents v
boolean_one (boolean b) c p = elim (p.3 refl) [
  | inl e ↦ p.1 ∙ (λ i. same p.0 0 b e p.2 refl i ∷ [])
  | inr e ↦ p.1 ∙ (λ i. same p.0 255 b e p.2 refl i ∷ [])
]
  where
    same : (octet k : ℕ) (b : Bool) → octet ≡ k → b ≡ not (nat_eq octet 0) → k ≡ boolean_octet (not (nat_eq k 0)) → octet ≡ boolean_octet b
    same octet k b e f g = e ∙ g ∙ ap (λ (n : ℕ). boolean_octet (not (nat_eq n 0))) (sym e) ∙ ap boolean_octet (sym f)
boolean_one null c p = absurd p
boolean_one (integer z) c p = absurd p
boolean_one (octets os) c p = absurd p
boolean_one (bits os n) c p = absurd p
boolean_one (object_id os) c p = absurd p
boolean_one (text os) c p = absurd p
boolean_one (parts ps) c p = absurd p
boolean_one (list vs) c p = absurd p
boolean_one (chosen n v) c p = absurd p
boolean_one (any os) c p = absurd p

integer_one : (low high : ℤ) (v : Value) (c : List ℕ) → AreOctets c → IntegerIs low high v c → c ≡ integer_contents v
integer_one low high (integer z) c o p = unique_integer c z o p.0
integer_one low high null c o p = absurd p
integer_one low high (boolean b) c o p = absurd p
integer_one low high (octets os) c o p = absurd p
integer_one low high (bits os n) c o p = absurd p
integer_one low high (object_id os) c o p = absurd p
integer_one low high (text os) c o p = absurd p
integer_one low high (parts ps) c o p = absurd p
integer_one low high (list vs) c o p = absurd p
integer_one low high (chosen n v) c o p = absurd p
integer_one low high (any os) c o p = absurd p

enumerated_one : (items : List Item) (v : Value) (c : List ℕ) → AreOctets c → EnumeratedIs items v c → c ≡ integer_contents v
enumerated_one items (integer z) c o p = unique_integer c z o p.0
enumerated_one items null c o p = absurd p
enumerated_one items (boolean b) c o p = absurd p
enumerated_one items (octets os) c o p = absurd p
enumerated_one items (bits os n) c o p = absurd p
enumerated_one items (object_id os) c o p = absurd p
enumerated_one items (text os) c o p = absurd p
enumerated_one items (parts ps) c o p = absurd p
enumerated_one items (list vs) c o p = absurd p
enumerated_one items (chosen n v) c o p = absurd p
enumerated_one items (any os) c o p = absurd p

null_one : (v : Value) (c : List ℕ) → NullIs v c → (c ≡ []) × (v ≡ null)
null_one null c p = (p, refl)
null_one (boolean b) c p = absurd p
null_one (integer z) c p = absurd p
null_one (octets os) c p = absurd p
null_one (bits os n) c p = absurd p
null_one (object_id os) c p = absurd p
null_one (text os) c p = absurd p
null_one (parts ps) c p = absurd p
null_one (list vs) c p = absurd p
null_one (chosen n v) c p = absurd p
null_one (any os) c p = absurd p

-- a value that is no default
abbrev is_other_kind : Value → Bool
is_other_kind (boolean b) = false
is_other_kind (integer z) = false
is_other_kind v = true

no_default : (d : Option ℤ) (v : Value) → is_other_kind v ≡ true → is_default d v ≡ false
no_default None v e = refl
no_default (Some d) (boolean b) e = absurd cc
no_default (Some d) (integer z) e = absurd cc
no_default (Some d) null e = refl
no_default (Some d) (octets os) e = refl
no_default (Some d) (bits os n) e = refl
no_default (Some d) (object_id os) e = refl
no_default (Some d) (text os) e = refl
no_default (Some d) (parts ps) e = refl
no_default (Some d) (list vs) e = refl
no_default (Some d) (chosen n v) e = refl
no_default (Some d) (any os) e = refl

object_id_one : (v : Value) (c : List ℕ) → ObjectIdIs v c → (c ≡ object_id_contents v) × (is_other_kind v ≡ true)
object_id_one (object_id arcs) c p = (unique_subidentifiers (subidentifiers arcs) c p.are, refl)
object_id_one null c p = absurd p
object_id_one (boolean b) c p = absurd p
object_id_one (integer z) c p = absurd p
object_id_one (octets os) c p = absurd p
object_id_one (bits os n) c p = absurd p
object_id_one (text os) c p = absurd p
object_id_one (parts ps) c p = absurd p
object_id_one (list vs) c p = absurd p
object_id_one (chosen n v) c p = absurd p
object_id_one (any os) c p = absurd p

octets_one : (most : ℕ) (v : Value) (c : List ℕ) → string_rule OfOctets (whole_octets most) c ≡ Some v → (c ≡ octets_contents v) × (is_other_kind v ≡ true)
octets_one most v c e = by_test (nat_le (length c) most) e
  where
    by_test : (b : Bool) → cond b (Some (octets c)) None ≡ Some v → (c ≡ octets_contents v) × (is_other_kind v ≡ true)
    by_test true e = let same : octets c ≡ v = cc in (ap octets_contents same, ap is_other_kind (sym same))
    by_test false e = absurd cc

text_one : (kind : TextKind) (v : Value) (c : List ℕ) → string_rule OfOctets (whole_text kind) c ≡ Some v → (c ≡ text_contents v) × (is_other_kind v ≡ true)
text_one kind v c e = by_test (is_text kind c) e
  where
    by_test : (b : Bool) → cond b (Some (text c)) None ≡ Some v → (c ≡ text_contents v) × (is_other_kind v ≡ true)
    by_test true e = let same : text c ≡ v = cc in (ap text_contents same, ap is_other_kind (sym same))
    by_test false e = absurd cc

bits_one : (v : Value) (c : List ℕ) → string_rule OfBits whole_bits c ≡ Some v → has_zero_bits c ≡ true → (c ≡ bits_contents v) × (is_other_kind v ≡ true)
bits_one v [] e z = absurd cc
bits_one v (unused ∷ os) e z =
    let both : Some (bits os unused) ≡ Some v = sym (bits_ruled os unused z) ∙ e in
    let same : bits os unused ≡ v = cc in
    (ap bits_contents same, ap is_other_kind (sym same))

any_one : (levels : ℕ) (v : Value) (s : List ℕ) → AnyIs levels v s → (s ≡ any_written v) × (is_other_kind v ≡ true)
any_one levels (any os) s p = (p.1, refl)
any_one levels null s p = absurd p
any_one levels (boolean b) s p = absurd p
any_one levels (integer z) s p = absurd p
any_one levels (octets os) s p = absurd p
any_one levels (bits os n) s p = absurd p
any_one levels (object_id os) s p = absurd p
any_one levels (text os) s p = absurd p
any_one levels (parts ps) s p = absurd p
any_one levels (list vs) s p = absurd p
any_one levels (chosen n v) s p = absurd p

-- ---- values inside

values_append : (f : Writer) (a b : List Value) → values_contents f (values_of (a ++ b)) ≡ values_contents f (values_of a) ++ values_contents f (values_of b)
values_append f [] b = refl
values_append f (v ∷ a) b = ap (λ (l : List ℕ). f None v ++ l) (values_append f a b) ∙ sym (append_assoc (f None v) (values_contents f (values_of a)) (values_contents f (values_of b)))

module _ (rel : ℕ → Spelled) (write : ℕ → Writer) (each : (m : ℕ) → OneDer (rel m) (write m)) where
  part_one : (levels : ℕ) (p : Part) (o : Option Value) (s : List ℕ) → AreOctets s → PartIs (rel p.inner.0) true levels p o s → s ≡ part_contents write p o
  part_one levels p None s are (inl a) = a.2
  part_one levels p (Some v) s are (inl a) = let wrong : Some v ≡ None = a.1 in absurd cc
  part_one levels p o s are (inr a) =
      let here = (each p.inner.0).is (bare p.default) levels a.0 s are a.2 in
      let same : Some a.0 ≡ o = sym (ap (λ (b : Bool). cond b None (Some a.0)) here.1) ∙ a.1 in
      here.0 ∙ ap (part_contents write p) same

  parts_one : (levels : ℕ) (ps : List Part) (vs : MaybeValues) (c : List ℕ) → AreOctets c → PartsAre rel true levels ps vs c → c ≡ parts_contents write ps vs
  parts_one levels [] no_parts c are q = q
  parts_one levels [] (absent vs) c are q = absurd q
  parts_one levels [] (present v vs) c are q = absurd q
  parts_one levels (p ∷ ps) no_parts c are q = absurd q
  parts_one levels (p ∷ ps) (absent vs) c are q =
      let all : AreOctets (q.0 ++ q.1) = subst AreOctets q.2 are in
      q.2 ∙ (λ i. part_one levels p None q.0 (octets_left q.0 q.1 all) q.3 i ++ parts_one levels ps vs q.1 (octets_right q.0 q.1 all) q.4 i)
  parts_one levels (p ∷ ps) (present v vs) c are q =
      let all : AreOctets (q.0 ++ q.1) = subst AreOctets q.2 are in
      q.2 ∙ (λ i. part_one levels p (Some v) q.0 (octets_left q.0 q.1 all) q.3 i ++ parts_one levels ps vs q.1 (octets_right q.0 q.1 all) q.4 i)

  sequence_one : (ps : List Part) (v : Value) (levels : ℕ) (c : List ℕ) → AreOctets c → SequenceIs rel true ps v levels c → (c ≡ sequence_contents (parts_contents write ps) v) × (is_other_kind v ≡ true)
  sequence_one ps (parts vs) levels c are p = (parts_one levels ps vs c are p, refl)
  sequence_one ps null levels c are p = absurd p
  sequence_one ps (boolean b) levels c are p = absurd p
  sequence_one ps (integer z) levels c are p = absurd p
  sequence_one ps (octets os) levels c are p = absurd p
  sequence_one ps (bits os n) levels c are p = absurd p
  sequence_one ps (object_id os) levels c are p = absurd p
  sequence_one ps (text os) levels c are p = absurd p
  sequence_one ps (list vs) levels c are p = absurd p
  sequence_one ps (chosen n v) levels c are p = absurd p
  sequence_one ps (any os) levels c are p = absurd p

  -- one value more, in a SEQUENCE OF and in a SET OF
  value_one : (n levels : ℕ) (first next : List Value) (v : Value) (s others c : List ℕ) → AreOctets s → c ≡ s ++ others → next ≡ first ++ v ∷ [] → rel n plain true levels v s
      → values_contents (write n) (values_of next) ++ others ≡ values_contents (write n) (values_of first) ++ c
  value_one n levels first next v s others c are whole more is =
      let front : List ℕ = values_contents (write n) (values_of first) in
      let one : write n None v ++ [] ≡ s = append-nil (write n None v) ∙ sym ((each n).is plain levels v s are is).0 in
      ap (λ (x : List ℕ). x ++ others) (ap (λ (l : List Value). values_contents (write n) (values_of l)) more ∙ values_append (write n) first (v ∷ []) ∙ ap (λ (x : List ℕ). front ++ x) one)
      ∙ append_assoc front s others ∙ ap (λ (x : List ℕ). front ++ x) (sym whole)

  list_steps : (n levels : ℕ) (steps : List (List ℕ × List Value)) (first last : List Value) (c : List ℕ) → AreOctets c → Steps (λ a b s. ListStep (rel n) a true levels b s) steps first last c
      → values_contents (write n) (values_of last) ≡ values_contents (write n) (values_of first) ++ c
  list_steps n levels [] first last c are p =
      ap (λ (l : List Value). values_contents (write n) (values_of l)) (sym p.0) ∙ sym (append-nil (values_contents (write n) (values_of first))) ∙ ap (λ (x : List ℕ). values_contents (write n) (values_of first) ++ x) (sym p.1)
  list_steps n levels (s ∷ more) first last c are p =
      let all : AreOctets (s.0 ++ p.0) = subst AreOctets p.1 are in
      list_steps n levels more s.1 last p.0 (octets_right s.0 p.0 all) p.3
      ∙ value_one n levels first s.1 p.2.0 s.0 p.0 c (octets_left s.0 p.0 all) p.1 p.2.1 p.2.2

  list_one : (n : ℕ) (v : Value) (levels : ℕ) (c : List ℕ) → AreOctets c → ListIs (rel n) true v levels c → (c ≡ list_contents (write n) v) × (is_other_kind v ≡ true)
  list_one n v levels c are p =
      let done : Some (list (values_of p.0)) ≡ Some v = p.1 in
      let same : list (values_of p.0) ≡ v = cc in
      (sym (list_steps n levels p.2 [] p.0 c are p.3) ∙ ap (list_contents (write n)) same, ap is_other_kind (sym same))

  -- ---- SET OF

  module _ (spell : Value → List ℕ) where
    set_of_steps : (n levels : ℕ) (steps : List (List ℕ × List Value)) (first last : List Value) (c : List ℕ) → AreOctets c → Steps (λ a b s. SetItemStep spell (rel n) a true levels b s) steps first last c
        → values_contents (write n) (values_of last) ≡ values_contents (write n) (values_of first) ++ c
    set_of_steps n levels [] first last c are p =
        ap (λ (l : List Value). values_contents (write n) (values_of l)) (sym p.0) ∙ sym (append-nil (values_contents (write n) (values_of first))) ∙ ap (λ (x : List ℕ). values_contents (write n) (values_of first) ++ x) (sym p.1)
    set_of_steps n levels (s ∷ more) first last c are p =
        let all : AreOctets (s.0 ++ p.0) = subst AreOctets p.1 are in
        set_of_steps n levels more s.1 last p.0 (octets_right s.0 p.0 all) p.3
        ∙ value_one n levels first s.1 p.2.0 s.0 p.0 c (octets_left s.0 p.0 all) p.1 p.2.1 p.2.2

    rise_more : (a : List Value) (v : Value) → rise spell (values_of a) ≡ true → behind_last spell a v ≡ true → rise spell (values_of (a ++ v ∷ [])) ≡ true
    rise_more [] v h b = refl
    rise_more (w ∷ []) v h b = rw b refl
    rise_more (w ∷ x ∷ a) v h b =
        let q = and_parts (follows spell w x) (rise_behind spell x (values_of a)) h in
        rw q.0 (rise_more (x ∷ a) v q.1 b)

    set_of_rises : (n levels : ℕ) (steps : List (List ℕ × List Value)) (first last : List Value) (c : List ℕ) → rise spell (values_of first) ≡ true → Steps (λ a b s. SetItemStep spell (rel n) a true levels b s) steps first last c
        → rise spell (values_of last) ≡ true
    set_of_rises n levels [] first last c h p = subst (λ (l : List Value). rise spell (values_of l) ≡ true) p.0 h
    set_of_rises n levels (s ∷ more) first last c h p =
        let next = rise_more first p.2.0 h (p.2.3 refl) in
        set_of_rises n levels more s.1 last p.0 (subst (λ (l : List Value). rise spell (values_of l) ≡ true) (sym p.2.1) next) p.3

    in_items : (l : List Value) → items_in (values_of l) ≡ l
    in_items [] = refl
    in_items (v ∷ l) = ap (λ (m : List Value). v ∷ m) (in_items l)

    sorted_same : (l : List Value) → rise spell (values_of l) ≡ true → values_of (sorted spell l) ≡ values_of l
    sorted_same l h = ap (λ (m : List Value). values_of (sorted spell m)) (sym (in_items l)) ∙ rising_sorted spell (values_of l) h

    set_of_one : (n : ℕ) (v : Value) (levels : ℕ) (c : List ℕ) → AreOctets c → SetOfIs spell (rel n) true v levels c → (c ≡ list_contents (write n) v) × (is_other_kind v ≡ true)
    set_of_one n v levels c are p =
        let done : Some (list (values_of (sorted spell p.0))) ≡ Some v = p.1 in
        let same : list (values_of (sorted spell p.0)) ≡ v = cc in
        let up = set_of_rises n levels p.2 [] p.0 c refl p.3 in
        let order = sorted_same p.0 up in
        (sym (set_of_steps n levels p.2 [] p.0 c are p.3) ∙ ap (values_contents (write n)) (sym order) ∙ ap (list_contents (write n)) same, ap is_other_kind (sym same))

  choice_one : (ps : List Part) (levels : ℕ) (v : Value) (s : List ℕ) → AreOctets s → ChoiceIs rel ps true levels v s → (s ≡ choice_written (λ which. alternative_written write (slice_get ps which)) v) × (is_other_kind v ≡ true)
  choice_one ps levels (chosen which v) s are p = (((each p.0.inner.0).is plain levels v s are p.2).0 ∙ ap (λ (o : Option Part). alternative_written write o v) (sym p.1), refl)
  choice_one ps levels null s are p = absurd p
  choice_one ps levels (boolean b) s are p = absurd p
  choice_one ps levels (integer z) s are p = absurd p
  choice_one ps levels (octets os) s are p = absurd p
  choice_one ps levels (bits os n) s are p = absurd p
  choice_one ps levels (object_id os) s are p = absurd p
  choice_one ps levels (text os) s are p = absurd p
  choice_one ps levels (parts qs) s are p = absurd p
  choice_one ps levels (list vs) s are p = absurd p
  choice_one ps levels (any os) s are p = absurd p

  -- ---- SET

  set_steps : (ps : List Part) (levels total : ℕ) → ((l : List ℕ) → front_rank l < total) → (steps : List (List ℕ × Filled)) (first last : Filled) (c : List ℕ) → AreOctets c → Found write first.least ps first.found
      → Steps (λ a b s. SetStep rel ps a true levels b s) steps first last c
      → Found write last.least ps last.found × (risen_parts write total 0 ps (parts_of last.found) ≡ risen_parts write total 0 ps (parts_of first.found) ++ c)
  set_steps ps levels total below [] first last c are found p = (
    subst (λ (x : Filled). Found write x.least ps x.found) p.0 found,
    (λ i. risen_parts write total 0 ps (parts_of (sym p.0 i).found)) ∙ sym (append-nil (risen_parts write total 0 ps (parts_of first.found))) ∙ ap (λ (x : List ℕ). risen_parts write total 0 ps (parts_of first.found) ++ x) (sym p.1),
  )
  set_steps ps levels total below (s ∷ more) first last c are found p =
      let all : AreOctets (s.0 ++ p.0) = subst AreOctets p.1 are in
      let q = p.2 in
      let front : List ℕ = risen_parts write total 0 ps (parts_of first.found) in
      let one = (each q.1.inner.0).is (bare q.1.default) levels q.2 s.0 (octets_left s.0 p.0 all) q.5 in
      let top : front_rank (write q.1.inner.0 None q.2) ≡ front_rank s.0 = ap front_rank (sym one.0) in
      let low : first.least ≤ front_rank s.0 = q.6 refl in
      let high : front_rank s.0 < total = below s.0 in
      let now : Found write (front_rank s.0 + 1) ps (slice_set first.found q.0 (Some q.2)) = found_more write first.least (front_rank s.0 + 1) ps first.found q.0 q.1 q.2 (omega arith) found q.3 q.4 (omega arith) one.1 in
      let next = subst (λ (x : Filled). Found write x.least ps x.found) (sym q.7) now in
      let step = ap (λ (x : Filled). risen_parts write total 0 ps (parts_of x.found)) q.7 ∙ risen_more write total 0 (front_rank s.0) first.least ps first.found q.0 q.1 q.2 (omega arith) (omega arith) low found q.3 q.4 top one.1 in
      let rest = set_steps ps levels total below more s.1 last p.0 (octets_right s.0 p.0 all) next p.3 in
      (rest.0, rest.1 ∙ ap (λ (x : List ℕ). x ++ p.0) (step ∙ ap (λ (x : List ℕ). front ++ x) (sym one.0)) ∙ append_assoc front s.0 p.0 ∙ ap (λ (x : List ℕ). front ++ x) (sym p.1))

  set_risen : (ps : List Part) (levels total : ℕ) → ((l : List ℕ) → front_rank l < total) → (steps : List (List ℕ × Filled)) (last : Filled) (c : List ℕ) → AreOctets c
      → Steps (λ a b s. SetStep rel ps a true levels b s) steps (nothing_filled ps) last c → c ≡ risen_parts write total 0 ps (parts_of (settled ps last.found))
  set_risen ps levels total below steps last c are p =
      let h = set_steps ps levels total below steps (nothing_filled ps) last c are (none_found write ps) p in
      let none = none_risen write total 0 0 ps (empty_slots ps) (omega arith) (none_found write ps) in
      sym (h.1 ∙ ap (λ (x : List ℕ). x ++ c) none) ∙ ap (λ (l : List (Option Value)). risen_parts write total 0 ps (parts_of l)) (sym (settled_same write last.least ps last.found h.0))

  set_whole : (ps : List Part) (levels : ℕ) (steps : List (List ℕ × Filled)) (last : Filled) (c : List ℕ) → AreOctets c → Steps (λ a b s. SetStep rel ps a true levels b s) steps (nothing_filled ps) last c
      → c ≡ set_parts write ps (parts_of (settled ps last.found))
  unfolding set_parts
  set_whole ps levels steps last c are p = set_risen ps levels ranks front_below steps last c are p

  set_one : (ps : List Part) (v : Value) (levels : ℕ) (c : List ℕ) → AreOctets c → SetIs rel ps true v levels c → (c ≡ sequence_contents (set_parts write ps) v) × (is_other_kind v ≡ true)
  set_one ps v levels c are p = by_test (is_filled ps p.0.found) p.1 (set_whole ps levels p.2 p.0 c are p.3)
    where
      by_test : (b : Bool) → cond b (Some (parts (parts_of (settled ps p.0.found)))) None ≡ Some v → c ≡ set_parts write ps (parts_of (settled ps p.0.found)) → (c ≡ sequence_contents (set_parts write ps) v) × (is_other_kind v ≡ true)
      by_test true e h = let same : parts (parts_of (settled ps p.0.found)) ≡ v = cc in (h ∙ ap (sequence_contents (set_parts write ps)) same, ap is_other_kind (sym same))
      by_test false e h = absurd cc

  -- ---- rows

  plainly : (d : Option ℤ) (v : Value) (a b : List ℕ) → (a ≡ b) × (is_other_kind v ≡ true) → (a ≡ b) × (is_default d v ≡ false)
  plainly d v a b h = (h.0, no_default d v h.1)

  explicit_one : (d : Option ℤ) (P : Bool → ℕ → Value → List ℕ → Type 0) (w : Value → List ℕ) → ((l : ℕ) (v : Value) (s : List ℕ) → AreOctets s → P true l v s → (s ≡ w v) × (is_other_kind v ≡ true))
      → (t : Option tags.Tag) (levels : ℕ) (v : Value) (s : List ℕ) → AreOctets s → OrExplicit P t true levels v s → (s ≡ under w t v) × (is_default d v ≡ false)
  explicit_one d P w k None levels v s are p = plainly d v s (w v) (k levels v s are p)
  explicit_one d P w k (Some tag) levels v s are p = constructed_one (is_default d v ≡ false) tag levels (λ l c. P true l v c) s (w v) are p (λ l c o q. plainly d v c (w v) (k l v c o q))

  string_one : (d : Option ℤ) (kind : StringKind) (whole : Gathered → Option Value) (canonical : List ℕ → Bool) (tag : tags.Tag) (levels : ℕ) (v : Value) (s c : List ℕ) → AreOctets s → StringIs kind whole canonical tag true levels v s
      → ((e : List ℕ) → string_rule kind whole e ≡ Some v → canonical e ≡ true → (e ≡ c) × (is_other_kind v ≡ true)) → (s ≡ definite false tag c) × (is_default d v ≡ false)
  string_one d kind whole canonical tag levels v s c are (inl q) k =
      primitive_one (is_default d v ≡ false) tag levels (λ e. (string_rule kind whole e ≡ Some v) × (true ≡ true → canonical e ≡ true)) s c are q (λ e o h. plainly d v e c (k e h.0 (h.1 refl)))
  string_one d kind whole canonical tag levels v s c are (inr q) k = let wrong : true ≡ false = q.0 in absurd cc

  row_one : (spell : ℕ → Value → List ℕ) (r : TypeRow) (g : Guise) (levels : ℕ) (v : Value) (s : List ℕ) → AreOctets s → RowIs spell rel r g true levels v s → (s ≡ write_by write r g.tag v) × (is_default g.default v ≡ false)
  row_one spell row.Boolean g levels v s are p =
      primitive_one (is_default g.default v ≡ false) (tag_or g.tag Universal 1) levels (λ c. BooleanIs true v c × IsOther g.default true v) s (boolean_contents v) are p (λ c o q. (boolean_one v c q.0, q.1 refl))
  row_one spell (row.Integer low high) g levels v s are p =
      primitive_one (is_default g.default v ≡ false) (tag_or g.tag Universal 2) levels (λ c. IntegerIs low high v c × IsOther g.default true v) s (integer_contents v) are p (λ c o q. (integer_one low high v c o q.0, q.1 refl))
  row_one spell (row.Enumerated items) g levels v s are p =
      primitive_one (is_default g.default v ≡ false) (tag_or g.tag Universal 10) levels (λ c. EnumeratedIs items v c × IsOther g.default true v) s (integer_contents v) are p (λ c o q. (enumerated_one items v c o q.0, q.1 refl))
  row_one spell row.Null g levels v s are p =
      primitive_one (is_default g.default v ≡ false) (tag_or g.tag Universal 5) levels (NullIs v) s [] are p (λ c o q. let h = null_one v c q in (h.0, no_default g.default v (ap is_other_kind h.1)))
  row_one spell (row.OctetString most) g levels v s are p = string_one g.default OfOctets (whole_octets most) always (tag_or g.tag Universal 4) levels v s (octets_contents v) are p (λ e h z. octets_one most v e h)
  row_one spell row.BitString g levels v s are p = string_one g.default OfBits whole_bits has_zero_bits (tag_or g.tag Universal 3) levels v s (bits_contents v) are p (λ e h z. bits_one v e h z)
  row_one spell row.ObjectId g levels v s are p =
      primitive_one (is_default g.default v ≡ false) (tag_or g.tag Universal 6) levels (ObjectIdIs v) s (object_id_contents v) are p (λ c o q. plainly g.default v c (object_id_contents v) (object_id_one v c q))
  row_one spell (row.Text kind) g levels v s are p = string_one g.default OfOctets (whole_text kind) always (tag_or g.tag Universal (text_number kind)) levels v s (text_contents v) are p (λ e h z. text_one kind v e h)
  row_one spell (row.Sequence ps) g levels v s are p =
      constructed_one (is_default g.default v ≡ false) (tag_or g.tag Universal 16) levels (SequenceIs rel true ps v) s (sequence_contents (parts_contents write ps) v) are p (λ l c o q. plainly g.default v c (sequence_contents (parts_contents write ps) v) (sequence_one ps v l c o q))
  row_one spell (row.Set ps) g levels v s are p =
      constructed_one (is_default g.default v ≡ false) (tag_or g.tag Universal 17) levels (SetIs rel ps true v) s (sequence_contents (set_parts write ps) v) are p (λ l c o q. plainly g.default v c (sequence_contents (set_parts write ps) v) (set_one ps v l c o q))
  row_one spell (row.SequenceOf of) g levels v s are p =
      constructed_one (is_default g.default v ≡ false) (tag_or g.tag Universal 16) levels (ListIs (rel of.0) true v) s (list_contents (write of.0) v) are p (λ l c o q. plainly g.default v c (list_contents (write of.0) v) (list_one of.0 v l c o q))
  row_one spell (row.SetOf of) g levels v s are p =
      constructed_one (is_default g.default v ≡ false) (tag_or g.tag Universal 17) levels (SetOfIs (spell of.0) (rel of.0) true v) s (list_contents (write of.0) v) are p (λ l c o q. plainly g.default v c (list_contents (write of.0) v) (set_of_one (spell of.0) of.0 v l c o q))
  row_one spell (row.Choice ps) g levels v s are p =
      explicit_one g.default (ChoiceIs rel ps) (choice_written (λ which. alternative_written write (slice_get ps which))) (λ l w t o q. choice_one ps l w t o q) g.tag levels v s are p
  row_one spell (row.Tagged class number true of) g levels v s are p =
      constructed_one (is_default g.default v ≡ false) (tag_or g.tag class number) levels (λ l c. rel of.0 (bare g.default) true l v c) s (write of.0 None v) are p (λ l c o q. (each of.0).is (bare g.default) l v c o q)
  row_one spell (row.Tagged class number false of) g levels v s are p = (each of.0).is (guised (Some (tag_or g.tag class number)) g.default) levels v s are p
  row_one spell row.Any g levels v s are p = explicit_one g.default (λ t. AnyIs) any_written (λ l w t o q. any_one l w t q) g.tag levels v s are p

-- ---- tables

along_one : (rows : List TypeRow) (turns n : ℕ) → OneDer (SpelledBy rows turns n) (along nothing_written write_by rows turns n)
along_one rows zero n = record { is = λ g levels v s are p. absurd p }
along_one rows (suc turns) n = record { is = λ g levels v s are p. by_row (along_one rows turns) (slice_get rows n) g levels v s are p }
  where
    by_row : ((m : ℕ) → OneDer (SpelledBy rows turns m) (along nothing_written write_by rows turns m)) → (o : Option TypeRow) (g : Guise) (levels : ℕ) (v : Value) (s : List ℕ) → AreOctets s → RowOr (RowIs (written rows) (SpelledBy rows turns)) o g true levels v s
        → (s ≡ of_row nothing_written (write_by (along nothing_written write_by rows turns)) o g.tag v) × (is_default g.default v ≡ false)
    by_row each None g levels v s are p = absurd p
    by_row each (Some r) g levels v s are p = row_one (SpelledBy rows turns) (along nothing_written write_by rows turns) each (written rows) r g levels v s are p

-- what is spelled in DER is what is written
pub der_written : (rows : List TypeRow) (n limit : ℕ) (v : Value) (spelled : List ℕ) → AreOctets spelled → Spells rows n true limit v spelled → spelled ≡ written rows n v
unfolding written writes
der_written rows n limit v spelled are s = ((along_one rows (length rows) n).is plain most_levels v spelled are s.by).0
