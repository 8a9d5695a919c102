-- What is written of a value that fits is spelled so.
use Rattle.std.proofs.Common.{◌≡◌, ℕ, zero, suc, ◌+◌, ◌-◌, ◌%◌, ◌^◌, ◌<◌, ◌≤◌, ℤ, pos, negsuc, ◌≤ℤ◌, Bool, true, false, not, ◌&&◌, cond, List, [], ◌∷◌, ◌++◌, length, take, Option, Some, None, refl, sym, ap, ◌∙◌, subst, arith, append_assoc, length-append, inl, inr}
use Rattle.std.specs.Prelude.{slice_get, slice_index, slice_set, nat_lt, nat_le, nat_eq, int_lt}
use Rattle.std.specs.List.{AllByRecursion, list_all}
use Rattle.std.proofs.lemmas.Bool.{ltb-true, ltb-false, eqb-true, ne_eqb, lt-leb, and_parts}
use Rattle.std.proofs.lemmas.List.{append-nil}
use Rattle.std.proofs.lemmas.Option.{slice_get_within}
use Rattle.std.proofs.lemmas.Int.{ints}
use Rattle.osi_base.specs.Oid.{is_oid}
use Rattle.asn1_types.specs.declared.row.Class.{Class}
use Rattle.asn1_types.specs.declared.row.Class.TheVariants.{Universal}
use Rattle.asn1_types.specs.declared.row.Part.{Part}
use Rattle.asn1_types.specs.declared.row.Item.{Item}
use Rattle.asn1_types.specs.declared.row.TextKind.{TextKind}
use Rattle.asn1_types.specs.declared.row.TextKind.TheVariants.{Utf8, Ia5, Visible, Printable, Numeric}
use Rattle.asn1_types.specs.declared.row.TypeRow.{TypeRow}
use Rattle.asn1_types.specs.declared.row.TypeRow.TheVariants as row
use Rattle.asn1_types.specs.Rows.{of_row, along, names_of, rows_of_parts, greatest, nesting, nesting_by, text_number, Opening, openings}
use Rattle.asn1_types.specs.Table.{HasShortTag, AreSoundRows, clash, agrees_later, has_clash}
use Rattle.asn1_types.specs.Value.{Value, boolean, integer, null, octets, bits, object_id, text, parts, list, chosen, any, MaybeValues, no_parts, absent, present, Values, no_values, value}
use Rattle.asn1_types.specs.Whole.{is_whole}
use Rattle.asn1_types.specs.Defaults.{is_item, may_be_absent, is_default}
use Rattle.asn1_types.specs.Fits.{is_number, has_32_bits, is_octet, are_bits, is_text, boolean_fits, integer_fits, enumerated_fits, null_fits, octets_fit, bits_fit, text_fits, object_id_fits, values_fit, list_fits, parts_fit, sequence_fits, alternative_fits, choice_fits, any_fits, form_by, nothing_fits, has_form}
use Rattle.asn1_types.proofs.Along.{settled}
use Rattle.asn1_types.proofs.Sound.{is_down, taken, nesting_cong, nesting_before, sound_row}
use Rattle.asn1_types.specs.declared.row.Tag as tags
use Rattle.ber_spelling.specs.declared.spot.StringKind.TheVariants.{OfOctets, OfBits}
use Rattle.ber_spelling.specs.Rules.{always, string_rule, whole_octets, whole_text, cleared, whole_bits, has_zero_bits, bare, plain}
use Rattle.ber_spelling.specs.Spelling.{Spelled, IsPrimitive, IsConstructed, IsWhole, PartsAre, SequenceIs, SetIs, ChoiceIs, Steps, ListStep, ListIs, BooleanIs, EnumeratedIs, IntegerIs, NullIs, ObjectIdIs, AnyIs, RowIs, RowOr, SpelledBy, Spells, OrExplicit, IsOther, SetItemStep, SetOfIs}
use Rattle.asn1_types.specs.Writing.{Writer, definite, boolean_contents, integer_contents, octets_contents, text_contents, bits_contents, object_id_contents, values_contents, list_contents, parts_contents, sequence_contents, set_parts, alternative_written, choice_written, any_written, under, write_by, nothing_written, writes, written, subidentifiers}
use Rattle.asn1_types.specs.Tags.{tag_or, front_rank}
use Rattle.ber_spelling.specs.declared.spot.Scope.{Scope}
use Rattle.ber_spelling.proofs.Orders.{front_read, opened_small}
use Rattle.ber_spelling.proofs.RowLaws.{along_only}
use Rattle.ber_spelling.proofs.WrittenSets.{Told, AllSpelled, AllShort, first_short, rest_short, set_short, set_is}
use Rattle.ber_spelling.proofs.WrittenFields.{definite_is, contents_short, Has64, integer_is, subidentifiers_are}
use Rattle.ber_spelling.proofs.Oids.{arcs_small}
use Rattle.ber_spelling.proofs.RisingLaws.{items_in, items_same, GoOn, go_on, rising_goes, rising_sorted}
use Rattle.asn1_types.specs.Rising.{set_rises}

abbrev Most : ℕ
Most = 2 ^ 64

abbrev OkTag : Option tags.Tag → Type 0
OkTag None = Unit {0}
OkTag (Some t) = t.number < 2 ^ 32

tag_ok : (t : Option tags.Tag) (class : Class) (number : ℕ) → OkTag t → number < 2 ^ 32 → (tag_or t class number).number < 2 ^ 32
tag_ok None class number ok lt = lt
tag_ok (Some t) class number ok lt = ok

primitive_is : (strict : Bool) (tag : tags.Tag) (levels : ℕ) (P : List ℕ → Type 0) (c : List ℕ) → tag.number < 2 ^ 32 → 0 < levels → length (definite false tag c) < Most → P c → IsPrimitive tag strict levels P (definite false tag c)
primitive_is strict tag levels P c small lt short p = record { level = lt; small = small; form = definite_is strict false tag P c (contents_short false tag c Most short) p }

constructed_is : (strict : Bool) (tag : tags.Tag) (levels inner : ℕ) (P : ℕ → List ℕ → Type 0) (c : List ℕ) → levels ≡ suc inner → tag.number < 2 ^ 32 → length (definite true tag c) < Most → P inner c → IsConstructed tag strict levels P (definite true tag c)
constructed_is strict tag levels inner P c e small short p = record { inner = inner; level = e; small = small; form = inl (definite_is strict true tag (P inner) c (contents_short true tag c Most short) p) }

-- ---- INTEGER, NULL, OBJECT IDENTIFIER

has_64 : (z : ℤ) → is_number z ≡ true → Has64 z
has_64 (pos n) e = ltb-true n (2 ^ 63) e
has_64 (negsuc n) e = ltb-true n (2 ^ 63) e

int_le : (a b : ℤ) → not (int_lt b a) ≡ true → a ≤ℤ b
int_le a b e = grind (arith, ints)

integer_written : (low high : ℤ) (v : Value) → integer_fits low high v ≡ true → IntegerIs low high v (integer_contents v)
integer_written low high (integer z) e =
    let a = and_parts (is_number z && not (int_lt z low)) (not (int_lt high z)) e in
    let b = and_parts (is_number z) (not (int_lt z low)) a.0 in
    (integer_is z (has_64 z b.0), int_le low z b.1, int_le z high a.1)
integer_written low high null e = absurd cc
integer_written low high (boolean b) e = absurd cc
integer_written low high (octets os) e = absurd cc
integer_written low high (bits os n) e = absurd cc
integer_written low high (object_id os) e = absurd cc
integer_written low high (text os) e = absurd cc
integer_written low high (parts ps) e = absurd cc
integer_written low high (list vs) e = absurd cc
integer_written low high (chosen n v) e = absurd cc
integer_written low high (any os) e = absurd cc

boolean_written : (strict : Bool) (v : Value) → boolean_fits v ≡ true → BooleanIs strict v (boolean_contents v)
boolean_written strict (boolean true) e = (255, refl, refl, λ s. inr refl)
boolean_written strict (boolean false) e = (0, refl, refl, λ s. inl refl)
boolean_written strict null e = absurd cc
boolean_written strict (integer z) e = absurd cc
boolean_written strict (octets os) e = absurd cc
boolean_written strict (bits os n) e = absurd cc
boolean_written strict (object_id os) e = absurd cc
boolean_written strict (text os) e = absurd cc
boolean_written strict (parts ps) e = absurd cc
boolean_written strict (list vs) e = absurd cc
boolean_written strict (chosen n v) e = absurd cc
boolean_written strict (any os) e = absurd cc

enumerated_written : (items : List Item) (v : Value) → enumerated_fits items v ≡ true → EnumeratedIs items v (integer_contents v)
enumerated_written items (integer z) e =
    let a = and_parts (is_number z) (is_item items z) e in
    (integer_is z (has_64 z a.0), a.1)
enumerated_written items null e = absurd cc
enumerated_written items (boolean b) e = absurd cc
enumerated_written items (octets os) e = absurd cc
enumerated_written items (bits os n) e = absurd cc
enumerated_written items (object_id os) e = absurd cc
enumerated_written items (text os) e = absurd cc
enumerated_written items (parts ps) e = absurd cc
enumerated_written items (list vs) e = absurd cc
enumerated_written items (chosen n v) e = absurd cc
enumerated_written items (any os) e = absurd cc

-- ---- strings

octets_written : (most : ℕ) (v : Value) → octets_fit most v ≡ true → string_rule OfOctets (whole_octets most) (octets_contents v) ≡ Some v
octets_written most (octets os) e = let a = and_parts (list_all is_octet os) (nat_le (length os) most) e in rw a.1 refl
octets_written most null e = absurd cc
octets_written most (integer z) e = absurd cc
octets_written most (boolean b) e = absurd cc
octets_written most (bits os n) e = absurd cc
octets_written most (object_id os) e = absurd cc
octets_written most (text os) e = absurd cc
octets_written most (parts ps) e = absurd cc
octets_written most (list vs) e = absurd cc
octets_written most (chosen n v) e = absurd cc
octets_written most (any os) e = absurd cc

text_written : (kind : TextKind) (v : Value) → text_fits kind v ≡ true → string_rule OfOctets (whole_text kind) (text_contents v) ≡ Some v
text_written kind (text os) e = by_test (is_text kind os) (and_parts (list_all is_octet os) (is_text kind os) e).1
  where
    by_test : (b : Bool) → b ≡ true → cond b (Some (text os)) None ≡ Some (text os)
    by_test b t = rw t refl
text_written kind null e = absurd cc
text_written kind (integer z) e = absurd cc
text_written kind (boolean b) e = absurd cc
text_written kind (octets os) e = absurd cc
text_written kind (bits os n) e = absurd cc
text_written kind (object_id os) e = absurd cc
text_written kind (parts ps) e = absurd cc
text_written kind (list vs) e = absurd cc
text_written kind (chosen n v) e = absurd cc
text_written kind (any os) e = absurd cc

set_same : (os : List ℕ) (i x : ℕ) → i < length os → x ≡ slice_index os i → slice_set os i x ≡ os
set_same [] i x lt e = absurd (omega arith)
set_same (o ∷ os) zero x lt e = ap (λ (y : ℕ). y ∷ os) e
set_same (o ∷ os) (suc i) x lt e = ap (λ (ys : List ℕ). o ∷ ys) (set_same os i x (omega arith) e)

few_bits : (unused : ℕ) → nat_lt unused 8 ≡ true → nat_le 8 unused ≡ false
few_bits unused e = let lt : unused < 8 = ltb-true unused 8 e in lt-leb 8 unused lt

cleared_same : (unused : ℕ) (o : ℕ) (os : List ℕ) → nat_eq (slice_index (o ∷ os) (length (o ∷ os) - 1) % 2 ^ unused) 0 ≡ true → cleared unused (o ∷ os) ≡ o ∷ os
cleared_same unused o os e =
    let last : ℕ = slice_index (o ∷ os) (length (o ∷ os) - 1) in
    let zero_bits : last % 2 ^ unused ≡ 0 = eqb-true (last % 2 ^ unused) 0 e in
    let same : last - last % 2 ^ unused ≡ last = omega arith in
    rw (ne_eqb (length (o ∷ os)) 0 (λ f. omega arith)) (set_same (o ∷ os) (length (o ∷ os) - 1) (last - last % 2 ^ unused) (omega arith) same)

pub bits_ruled : (os : List ℕ) (unused : ℕ) → are_bits os unused ≡ true → string_rule OfBits whole_bits (unused ∷ os) ≡ Some (bits os unused)
bits_ruled [] unused e =
    let a = and_parts (nat_lt unused 8) (nat_eq unused 0) e in
    rw (a.1, few_bits unused a.0) refl
bits_ruled (o ∷ os) unused e =
    let a = and_parts (nat_lt unused 8) (cond (nat_eq (length (o ∷ os)) 0) (nat_eq unused 0) (nat_eq (slice_index (o ∷ os) (length (o ∷ os) - 1) % 2 ^ unused) 0)) e in
    let some : nat_eq (length (o ∷ os)) 0 ≡ false = ne_eqb (length (o ∷ os)) 0 (λ f. omega arith) in
    let zeros : nat_eq (slice_index (o ∷ os) (length (o ∷ os) - 1) % 2 ^ unused) 0 ≡ true = ap (λ (b : Bool). cond b (nat_eq unused 0) (nat_eq (slice_index (o ∷ os) (length (o ∷ os) - 1) % 2 ^ unused) 0)) (sym some) ∙ a.1 in
    rw (a.0, few_bits unused a.0) (ap (λ (ys : List ℕ). Some (bits ys unused)) (cleared_same unused o os zeros))

bits_written : (v : Value) → bits_fit v ≡ true → (string_rule OfBits whole_bits (bits_contents v) ≡ Some v) × (has_zero_bits (bits_contents v) ≡ true)
bits_written (bits os unused) e = let a = and_parts (list_all is_octet os) (are_bits os unused) e in (bits_ruled os unused a.1, a.1)
bits_written null e = absurd cc
bits_written (integer z) e = absurd cc
bits_written (boolean b) e = absurd cc
bits_written (octets os) e = absurd cc
bits_written (object_id os) e = absurd cc
bits_written (text os) e = absurd cc
bits_written (parts ps) e = absurd cc
bits_written (list vs) e = absurd cc
bits_written (chosen n v) e = absurd cc
bits_written (any os) e = absurd cc

text_small : (kind : TextKind) → text_number kind < 2 ^ 32
text_small Utf8 = omega arith
text_small Ia5 = omega arith
text_small Visible = omega arith
text_small Printable = omega arith
text_small Numeric = omega arith

null_written : (v : Value) → null_fits v ≡ true → NullIs v []
null_written null e = refl
null_written (integer z) e = absurd cc
null_written (boolean b) e = absurd cc
null_written (octets os) e = absurd cc
null_written (bits os n) e = absurd cc
null_written (object_id os) e = absurd cc
null_written (text os) e = absurd cc
null_written (parts ps) e = absurd cc
null_written (list vs) e = absurd cc
null_written (chosen n v) e = absurd cc
null_written (any os) e = absurd cc

object_id_written : (v : Value) → object_id_fits v ≡ true → ObjectIdIs v (object_id_contents v)
object_id_written (object_id arcs) e =
    let t = and_parts (is_oid arcs) (list_all has_32_bits arcs) e in
    record { is_oid = t.0; small = arcs_small arcs t.1; are = subidentifiers_are (subidentifiers arcs) }
object_id_written null e = absurd cc
object_id_written (integer z) e = absurd cc
object_id_written (boolean b) e = absurd cc
object_id_written (octets os) e = absurd cc
object_id_written (bits os n) e = absurd cc
object_id_written (text os) e = absurd cc
object_id_written (parts ps) e = absurd cc
object_id_written (list vs) e = absurd cc
object_id_written (chosen n v) e = absurd cc
object_id_written (any os) e = absurd cc

-- ---- rows, from what the rows that they name are written as

-- another tag may want a level more
abbrev need : Option tags.Tag → ℕ → ℕ
need None n = n
need (Some t) n = suc n

-- what holds at a row: with as many levels as it nests, what is written is spelled so
record RowWritten (fit : Value → Bool) (write : Writer) (rel : Spelled) (nest : ℕ) : Type 0 where
  is : (t : Option tags.Tag) (d : Option ℤ) (strict : Bool) (levels : ℕ) (v : Value) → OkTag t → need t nest ≤ levels → fit v ≡ true → IsOther d strict v → length (write t v) < Most → rel (Rattle.ber_spelling.specs.Rules.under t d) strict levels v (write t v)

-- a value of no part is no default
no_default : (strict : Bool) (v : Value) → IsOther None strict v
no_default strict v = λ e. refl

not_true : (b : Bool) → not b ≡ true → b ≡ false
not_true true e = absurd cc
not_true false e = refl

append_short : (a b : List ℕ) → length (a ++ b) < Most → (length a < Most) × (length b < Most)
append_short a b lt = let e = length-append a b in (omega arith, omega arith)

module _ (fit : ℕ → Value → Bool) (write : ℕ → Writer) (rel : ℕ → Spelled) (nest : ℕ → ℕ) (each : (m : ℕ) → RowWritten (fit m) (write m) (rel m) (nest m)) (strict : Bool) where
  parts_written : (levels : ℕ) (ps : List Part) (vs : MaybeValues) → greatest nest (rows_of_parts ps) ≤ levels → parts_fit fit ps vs ≡ true → length (parts_contents write ps vs) < Most → PartsAre rel strict levels ps vs (parts_contents write ps vs)
  parts_written levels [] no_parts le e short = refl
  parts_written levels [] (absent vs) le e short = absurd cc
  parts_written levels [] (present v vs) le e short = absurd cc
  parts_written levels (p ∷ ps) no_parts le e short = absurd cc
  parts_written levels (p ∷ ps) (absent vs) le e short =
      let t = and_parts (may_be_absent p) (parts_fit fit ps vs) e in
      ([], parts_contents write ps vs, refl, inl (t.0, refl, refl), parts_written levels ps vs (omega arith) t.1 short)
  parts_written levels (p ∷ ps) (present v vs) le e short =
      let t = and_parts (not (is_default p.default v) && fit p.inner.0 v) (parts_fit fit ps vs) e in
      let u = and_parts (not (is_default p.default v)) (fit p.inner.0 v) t.0 in
      let other : is_default p.default v ≡ false = not_true (is_default p.default v) u.0 in
      let s = append_short (write p.inner.0 None v) (parts_contents write ps vs) short in (
        write p.inner.0 None v,
        parts_contents write ps vs,
        refl,
        inr (v, ap (λ (b : Bool). cond b None (Some v)) other, (each p.inner.0).is None p.default strict levels v tt (omega arith) u.1 (λ k. other) s.0),
        parts_written levels ps vs (omega arith) t.1 s.1,
      )

  slot_written : (levels : ℕ) (ps : List Part) (which : ℕ) (v : Value) → greatest nest (rows_of_parts ps) ≤ levels → alternative_fits fit (slice_get ps which) v ≡ true → length (alternative_written write (slice_get ps which) v) < Most
      → (p : Part) × (slice_get ps which ≡ Some p) × rel p.inner.0 plain strict levels v (alternative_written write (slice_get ps which) v)
  slot_written levels [] which v le e short = absurd cc
  slot_written levels (p ∷ ps) zero v le e short = (p, refl, (each p.inner.0).is None None strict levels v tt (omega arith) e (no_default strict v) short)
  slot_written levels (p ∷ ps) (suc which) v le e short = slot_written levels ps which v (omega arith) e short

  values_written : (of levels : ℕ) (before : List Value) (vs : Values) → nest of ≤ levels → values_fit (fit of) vs ≡ true → length (values_contents (write of) vs) < Most
      → (steps : List (List ℕ × List Value)) × Steps (λ a b text. ListStep (rel of) a strict levels b text) steps before (before ++ items_in vs) (values_contents (write of) vs)
  values_written of levels before no_values le e short = ([], (sym (append-nil before), refl))
  values_written of levels before (value v vs) le e short =
      let t = and_parts (fit of v) (values_fit (fit of) vs) e in
      let s = append_short (write of None v) (values_contents (write of) vs) short in
      let more = values_written of levels (before ++ v ∷ []) vs le t.1 s.1 in
      let ends : (before ++ v ∷ []) ++ items_in vs ≡ before ++ v ∷ items_in vs = append_assoc before (v ∷ []) (items_in vs) in (
        (write of None v, before ++ v ∷ []) ∷ more.0,
        (
          values_contents (write of) vs,
          refl,
          (v, refl, (each of).is None None strict levels v tt le t.0 (no_default strict v) s.0),
          subst (λ (l : List Value). Steps (λ a b text. ListStep (rel of) a strict levels b text) more.0 (before ++ v ∷ []) l (values_contents (write of) vs)) ends more.1,
        ),
      )

  list_written : (of levels : ℕ) (v : Value) → nest of ≤ levels → list_fits (fit of) v ≡ true → length (list_contents (write of) v) < Most → ListIs (rel of) strict v levels (list_contents (write of) v)
  list_written of levels (list vs) le e short =
      let w = values_written of levels [] vs le e short in
      (items_in vs, ap (λ (x : Values). Some (list x)) (items_same vs), w.0, w.1)
  list_written of levels null le e short = absurd cc
  list_written of levels (integer z) le e short = absurd cc
  list_written of levels (boolean b) le e short = absurd cc
  list_written of levels (octets os) le e short = absurd cc
  list_written of levels (bits os n) le e short = absurd cc
  list_written of levels (object_id os) le e short = absurd cc
  list_written of levels (text os) le e short = absurd cc
  list_written of levels (parts ps) le e short = absurd cc
  list_written of levels (chosen n v) le e short = absurd cc
  list_written of levels (any os) le e short = absurd cc

  set_values_written : (spell : Value → List ℕ) (of levels : ℕ) (before : List Value) (vs : Values) → nest of ≤ levels → values_fit (fit of) vs ≡ true → GoOn spell before vs → length (values_contents (write of) vs) < Most
      → (steps : List (List ℕ × List Value)) × Steps (λ a b text. SetItemStep spell (rel of) a strict levels b text) steps before (before ++ items_in vs) (values_contents (write of) vs)
  set_values_written spell of levels before no_values le e up short = ([], (sym (append-nil before), refl))
  set_values_written spell of levels before (value v vs) le e up short =
      let t = and_parts (fit of v) (values_fit (fit of) vs) e in
      let s = append_short (write of None v) (values_contents (write of) vs) short in
      let more = set_values_written spell of levels (before ++ v ∷ []) vs le t.1 (go_on spell before v vs up.1) s.1 in
      let ends : (before ++ v ∷ []) ++ items_in vs ≡ before ++ v ∷ items_in vs = append_assoc before (v ∷ []) (items_in vs) in (
        (write of None v, before ++ v ∷ []) ∷ more.0,
        (
          values_contents (write of) vs,
          refl,
          (v, refl, (each of).is None None strict levels v tt le t.0 (no_default strict v) s.0, λ k. up.0),
          subst (λ (l : List Value). Steps (λ a b text. SetItemStep spell (rel of) a strict levels b text) more.0 (before ++ v ∷ []) l (values_contents (write of) vs)) ends more.1,
        ),
      )

  set_of_written : (spell : Value → List ℕ) (of levels : ℕ) (v : Value) → nest of ≤ levels → list_fits (fit of) v ≡ true → set_rises spell v ≡ true → length (list_contents (write of) v) < Most → SetOfIs spell (rel of) strict v levels (list_contents (write of) v)
  set_of_written spell of levels (list vs) le e up short =
      let w = set_values_written spell of levels [] vs le e (rising_goes spell vs up) short in
      (items_in vs, ap (λ (x : Values). Some (list x)) (rising_sorted spell vs up), w.0, w.1)
  set_of_written spell of levels null le e up short = absurd cc
  set_of_written spell of levels (integer z) le e up short = absurd cc
  set_of_written spell of levels (boolean b) le e up short = absurd cc
  set_of_written spell of levels (octets os) le e up short = absurd cc
  set_of_written spell of levels (bits os n) le e up short = absurd cc
  set_of_written spell of levels (object_id os) le e up short = absurd cc
  set_of_written spell of levels (text os) le e up short = absurd cc
  set_of_written spell of levels (parts ps) le e up short = absurd cc
  set_of_written spell of levels (chosen n v) le e up short = absurd cc
  set_of_written spell of levels (any os) le e up short = absurd cc

  sequence_written : (levels : ℕ) (ps : List Part) (v : Value) → greatest nest (rows_of_parts ps) ≤ levels → sequence_fits (parts_fit fit ps) v ≡ true → length (sequence_contents (parts_contents write ps) v) < Most
      → SequenceIs rel strict ps v levels (sequence_contents (parts_contents write ps) v)
  sequence_written levels ps (parts vs) le e short = parts_written levels ps vs le e short
  sequence_written levels qs null le e short = absurd cc
  sequence_written levels qs (integer z) le e short = absurd cc
  sequence_written levels qs (boolean b) le e short = absurd cc
  sequence_written levels qs (octets os) le e short = absurd cc
  sequence_written levels qs (bits os n) le e short = absurd cc
  sequence_written levels qs (object_id os) le e short = absurd cc
  sequence_written levels qs (text os) le e short = absurd cc
  sequence_written levels qs (list vs) le e short = absurd cc
  sequence_written levels qs (chosen n v) le e short = absurd cc
  sequence_written levels qs (any os) le e short = absurd cc

  set_spelled : (levels : ℕ) (ps : List Part) (vs : MaybeValues) → greatest nest (rows_of_parts ps) ≤ levels → parts_fit fit ps vs ≡ true → AllShort write Most ps vs → AllSpelled write rel strict levels ps vs
  set_spelled levels [] no_parts le e short = tt
  set_spelled levels [] (absent vs) le e short = absurd cc
  set_spelled levels [] (present v vs) le e short = absurd cc
  set_spelled levels (p ∷ ps) no_parts le e short = absurd cc
  set_spelled levels (p ∷ ps) (absent vs) le e short =
      let t = and_parts (may_be_absent p) (parts_fit fit ps vs) e in
      (t.0, set_spelled levels ps vs (omega arith) t.1 short)
  set_spelled levels (p ∷ ps) (present v vs) le e short =
      let t = and_parts (not (is_default p.default v) && fit p.inner.0 v) (parts_fit fit ps vs) e in
      let u = and_parts (not (is_default p.default v)) (fit p.inner.0 v) t.0 in
      let other : is_default p.default v ≡ false = not_true (is_default p.default v) u.0 in
      ((each p.inner.0).is None p.default strict levels v tt (omega arith) u.1 (λ k. other) (first_short write Most p ps v vs short), set_spelled levels ps vs (omega arith) t.1 (rest_short write Most p ps v vs short), other)

  set_written : (openings : ℕ → List Opening) (levels : ℕ) → ((m : ℕ) (d : Option ℤ) (v : Value) (s : List ℕ) → rel m (bare d) strict levels v s → Told openings m s) → (ps : List Part) (v : Value) → agrees_later (clash openings) ps ≡ false
      → greatest nest (rows_of_parts ps) ≤ levels → sequence_fits (parts_fit fit ps) v ≡ true → length (sequence_contents (set_parts write ps) v) < Most
      → SetIs rel ps strict v levels (sequence_contents (set_parts write ps) v)
  set_written openings levels told ps (parts vs) d le e short =
      set_is openings write rel strict levels told ps vs (set_spelled levels ps vs le e (λ k lt. set_short write k Most ps vs lt short)) d
  set_written openings levels told qs null d le e short = absurd cc
  set_written openings levels told qs (integer z) d le e short = absurd cc
  set_written openings levels told qs (boolean b) d le e short = absurd cc
  set_written openings levels told qs (octets os) d le e short = absurd cc
  set_written openings levels told qs (bits os n) d le e short = absurd cc
  set_written openings levels told qs (object_id os) d le e short = absurd cc
  set_written openings levels told qs (text os) d le e short = absurd cc
  set_written openings levels told qs (list vs) d le e short = absurd cc
  set_written openings levels told qs (chosen n v) d le e short = absurd cc
  set_written openings levels told qs (any os) d le e short = absurd cc

  chosen_written : (levels : ℕ) (ps : List Part) (v : Value) → greatest nest (rows_of_parts ps) ≤ levels → choice_fits (λ which. alternative_fits fit (slice_get ps which)) v ≡ true → length (choice_written (λ which. alternative_written write (slice_get ps which)) v) < Most
      → ChoiceIs rel ps strict levels v (choice_written (λ which. alternative_written write (slice_get ps which)) v)
  chosen_written levels ps (chosen which v) le e short = slot_written levels ps which v le e short
  chosen_written levels qs null le e short = absurd cc
  chosen_written levels qs (integer z) le e short = absurd cc
  chosen_written levels qs (boolean b) le e short = absurd cc
  chosen_written levels qs (octets os) le e short = absurd cc
  chosen_written levels qs (bits os n) le e short = absurd cc
  chosen_written levels qs (object_id os) le e short = absurd cc
  chosen_written levels qs (text os) le e short = absurd cc
  chosen_written levels qs (parts ps) le e short = absurd cc
  chosen_written levels qs (list vs) le e short = absurd cc
  chosen_written levels qs (any os) le e short = absurd cc

any_written_is : ((os : List ℕ) → is_whole os ≡ true → IsWhole 32 os) → (levels : ℕ) (v : Value) → 0 < levels → any_fits v ≡ true → AnyIs levels v (any_written v)
any_written_is whole levels (any os) lt e = (lt, refl, whole os e)
any_written_is whole levels null lt e = absurd cc
any_written_is whole levels (integer z) lt e = absurd cc
any_written_is whole levels (boolean b) lt e = absurd cc
any_written_is whole levels (octets os) lt e = absurd cc
any_written_is whole levels (bits os n) lt e = absurd cc
any_written_is whole levels (object_id os) lt e = absurd cc
any_written_is whole levels (text os) lt e = absurd cc
any_written_is whole levels (parts ps) lt e = absurd cc
any_written_is whole levels (list vs) lt e = absurd cc
any_written_is whole levels (chosen n v) lt e = absurd cc

lower : (k levels : ℕ) → 1 + k ≤ levels → (l : ℕ) × (levels ≡ suc l) × (k ≤ l)
lower k zero le = absurd (omega arith)
lower k (suc l) le = (l, refl, omega arith)

nesting_at : (rows : List TypeRow) → AreSoundRows rows → (n : ℕ) (r : TypeRow) → slice_get rows n ≡ Some r → nesting rows n ≡ nesting_by (nesting rows) r
unfolding nesting
nesting_at rows sound n r e = settled 0 nesting_by nesting_cong rows (is_down rows sound) n r e

each_nest : (rows : List TypeRow) → AreSoundRows rows → (n : ℕ) (ns : List ℕ) → n ≤ length rows → AllByRecursion (λ m. m < n) ns → AllByRecursion (λ m. nesting rows m ≡ nesting (take n rows) m) ns
each_nest rows sound n [] le h = tt
each_nest rows sound n (m ∷ ns) le h = (nesting_before rows sound n m le h.0, each_nest rows sound n ns le h.1)

nests : (rows : List TypeRow) → AreSoundRows rows → (n : ℕ) (r : TypeRow) → slice_get rows n ≡ Some r → nesting rows n ≤ 32
nests rows sound n r e =
    let lt : n < length rows = slice_get_within rows n r e in
    let t = taken (take n rows) r (sound.each n r e) in
    let same : nesting_by (nesting rows) r ≡ nesting_by (nesting (take n rows)) r = nesting_cong r (nesting rows) (nesting (take n rows)) (each_nest rows sound n (names_of r) (omega arith) ((is_down rows sound).lower n r e)) in
    let few : nesting_by (nesting (take n rows)) r ≤ 32 = ltb-false 32 (nesting_by (nesting (take n rows)) r) t.nested in
    subst (λ (k : ℕ). k ≤ 32) (sym (nesting_at rows sound n r e ∙ same)) few

-- a spelling begins with a tag that its row allows
told_of : (rows : List TypeRow) → AreSoundRows rows → (turns m : ℕ) (d : Option ℤ) (strict : Bool) (levels : ℕ) (v : Value) (s : List ℕ) → SpelledBy rows turns m (bare d) strict levels v s → Told (openings rows) m s
told_of rows sound turns m d strict levels v s p =
    let scope : Scope = record { levels = levels; limit = length s; end = None; marked = false; strict = strict } in
    let r = (along_only rows sound turns m (bare d) tt).only scope 0 v s [] p (record { limit = omega arith; end = refl }) in
    record {
      class = r.opened.class;
      number = r.opened.number;
      allowed = r.allowed;
      small = opened_small scope 0 (s ++ []) r.opened r.spot r.opens;
      rank_is = ap front_rank (sym (append-nil s)) ∙ front_read scope 0 (s ++ []) r.opened r.spot r.opens;
    }

module _ (whole : (os : List ℕ) → is_whole os ≡ true → IsWhole 32 os) where
  module _ (spell : ℕ → Value → List ℕ) (openings : ℕ → List Opening) (fit : ℕ → Value → Bool) (write : ℕ → Writer) (rel : ℕ → Spelled) (nest : ℕ → ℕ) (each : (m : ℕ) → RowWritten (fit m) (write m) (rel m) (nest m))
      (told : (m : ℕ) (d : Option ℤ) (strict : Bool) (levels : ℕ) (v : Value) (s : List ℕ) → rel m (bare d) strict levels v s → Told openings m s)
    where
      choice_is : (ps : List Part) (t : Option tags.Tag) (strict : Bool) (levels : ℕ) (v : Value) → OkTag t → need t (1 + greatest nest (rows_of_parts ps)) ≤ levels → form_by spell fit (row.Choice ps) v ≡ true → length (write_by write (row.Choice ps) t v) < Most → OrExplicit (ChoiceIs rel ps) t strict levels v (write_by write (row.Choice ps) t v)
      choice_is ps None strict levels v ok le e short = chosen_written fit write rel nest each strict levels ps v (omega arith) e short
      choice_is ps (Some t) strict levels v ok le e short =
          let l = lower (greatest nest (rows_of_parts ps)) levels (omega arith) in
          let c : List ℕ = choice_written (λ which. alternative_written write (slice_get ps which)) v in
          constructed_is strict t levels l.0 (λ inner contents. ChoiceIs rel ps strict inner v contents) c l.1 ok short (chosen_written fit write rel nest each strict l.0 ps v l.2 e (contents_short true t c Most short))

      any_is : (t : Option tags.Tag) (strict : Bool) (levels : ℕ) (v : Value) → OkTag t → need t (1 + 0) ≤ levels → any_fits v ≡ true → length (under any_written t v) < Most → OrExplicit (λ s. AnyIs) t strict levels v (under any_written t v)
      any_is None strict levels v ok le e short = any_written_is whole levels v (omega arith) e
      any_is (Some t) strict levels v ok le e short =
          let l = lower 1 levels (omega arith) in
          constructed_is strict t levels l.0 (λ inner contents. AnyIs inner v contents) (any_written v) l.1 ok short (any_written_is whole l.0 v (omega (arith, l.2)) e)

      some_level : (t : Option tags.Tag) (k levels : ℕ) → need t (1 + k) ≤ levels → 1 + k ≤ levels
      some_level None k levels le = le
      some_level (Some t) k levels le = omega arith

      row_is : (r : TypeRow) → has_clash openings r ≡ false → HasShortTag r → (t : Option tags.Tag) (d : Option ℤ) (strict : Bool) (levels : ℕ) (v : Value) → OkTag t → need t (nesting_by nest r) ≤ levels → form_by spell fit r v ≡ true → IsOther d strict v → length (write_by write r t v) < Most → RowIs spell rel r (Rattle.ber_spelling.specs.Rules.under t d) strict levels v (write_by write r t v)
      row_is row.Boolean apart small t d strict levels v ok le e other short =
          primitive_is strict (tag_or t Universal 1) levels (λ c. BooleanIs strict v c × IsOther d strict v) (boolean_contents v) (tag_ok t Universal 1 ok (omega arith)) (omega (arith, some_level t 0 levels le)) short (boolean_written strict v e, other)
      row_is (row.Integer low high) apart small t d strict levels v ok le e other short =
          primitive_is strict (tag_or t Universal 2) levels (λ c. IntegerIs low high v c × IsOther d strict v) (integer_contents v) (tag_ok t Universal 2 ok (omega arith)) (omega (arith, some_level t 0 levels le)) short (integer_written low high v e, other)
      row_is (row.Enumerated items) apart small t d strict levels v ok le e other short =
          primitive_is strict (tag_or t Universal 10) levels (λ c. EnumeratedIs items v c × IsOther d strict v) (integer_contents v) (tag_ok t Universal 10 ok (omega arith)) (omega (arith, some_level t 0 levels le)) short (enumerated_written items v e, other)
      row_is row.Null apart small t d strict levels v ok le e other short =
          primitive_is strict (tag_or t Universal 5) levels (NullIs v) [] (tag_ok t Universal 5 ok (omega arith)) (omega (arith, some_level t 0 levels le)) short (null_written v e)
      row_is (row.OctetString most) apart small t d strict levels v ok le e other short =
          inl (primitive_is strict (tag_or t Universal 4) levels (λ c. (string_rule OfOctets (whole_octets most) c ≡ Some v) × (strict ≡ true → always c ≡ true)) (octets_contents v) (tag_ok t Universal 4 ok (omega arith)) (omega (arith, some_level t 0 levels le)) short
          (octets_written most v e, λ s. refl))
      row_is row.BitString apart small t d strict levels v ok le e other short =
          let b = bits_written v e in
          inl (primitive_is strict (tag_or t Universal 3) levels (λ c. (string_rule OfBits whole_bits c ≡ Some v) × (strict ≡ true → has_zero_bits c ≡ true)) (bits_contents v) (tag_ok t Universal 3 ok (omega arith)) (omega (arith, some_level t 0 levels le)) short
          (b.0, λ s. b.1))
      row_is row.ObjectId apart small t d strict levels v ok le e other short =
          primitive_is strict (tag_or t Universal 6) levels (ObjectIdIs v) (object_id_contents v) (tag_ok t Universal 6 ok (omega arith)) (omega (arith, some_level t 0 levels le)) short (object_id_written v e)
      row_is (row.Text kind) apart small t d strict levels v ok le e other short =
          inl (primitive_is strict (tag_or t Universal (text_number kind)) levels (λ c. (string_rule OfOctets (whole_text kind) c ≡ Some v) × (strict ≡ true → always c ≡ true)) (text_contents v) (tag_ok t Universal (text_number kind) ok (text_small kind)) (omega (arith, some_level t 0 levels le)) short
          (text_written kind v e, λ s. refl))
      row_is (row.Sequence ps) apart small t d strict levels v ok le e other short =
          let l = lower (greatest nest (rows_of_parts ps)) levels (some_level t (greatest nest (rows_of_parts ps)) levels le) in
          let c : List ℕ = sequence_contents (parts_contents write ps) v in
          constructed_is strict (tag_or t Universal 16) levels l.0 (SequenceIs rel strict ps v) c l.1 (tag_ok t Universal 16 ok (omega arith)) short
          (sequence_written fit write rel nest each strict l.0 ps v l.2 e (contents_short true (tag_or t Universal 16) c Most short))
      row_is (row.Set ps) apart small t d strict levels v ok le e other short =
          let l = lower (greatest nest (rows_of_parts ps)) levels (some_level t (greatest nest (rows_of_parts ps)) levels le) in
          let c : List ℕ = sequence_contents (set_parts write ps) v in
          constructed_is strict (tag_or t Universal 17) levels l.0 (SetIs rel ps strict v) c l.1 (tag_ok t Universal 17 ok (omega arith)) short
          (set_written fit write rel nest each strict openings l.0 (λ m k w text. told m k strict l.0 w text) ps v apart l.2 e (contents_short true (tag_or t Universal 17) c Most short))
      row_is (row.SequenceOf of) apart small t d strict levels v ok le e other short =
          let l = lower (nest of.0) levels (omega (arith, some_level t (greatest nest (of.0 ∷ [])) levels le)) in
          let c : List ℕ = list_contents (write of.0) v in
          constructed_is strict (tag_or t Universal 16) levels l.0 (ListIs (rel of.0) strict v) c l.1 (tag_ok t Universal 16 ok (omega arith)) short
          (list_written fit write rel nest each strict of.0 l.0 v l.2 e (contents_short true (tag_or t Universal 16) c Most short))
      row_is (row.SetOf of) apart small t d strict levels v ok le e other short =
          let l = lower (nest of.0) levels (omega (arith, some_level t (greatest nest (of.0 ∷ [])) levels le)) in
          let c : List ℕ = list_contents (write of.0) v in
          let both = and_parts (list_fits (fit of.0) v) (set_rises (spell of.0) v) e in
          constructed_is strict (tag_or t Universal 17) levels l.0 (SetOfIs (spell of.0) (rel of.0) strict v) c l.1 (tag_ok t Universal 17 ok (omega arith)) short
          (set_of_written fit write rel nest each strict (spell of.0) of.0 l.0 v l.2 both.0 both.1 (contents_short true (tag_or t Universal 17) c Most short))
      row_is (row.Choice ps) apart small t d strict levels v ok le e other short = choice_is ps t strict levels v ok le e short
      row_is (row.Tagged class number true of) apart small t d strict levels v ok le e other short =
          let l = lower (nest of.0) levels (omega (arith, some_level t (greatest nest (of.0 ∷ [])) levels le)) in
          let c : List ℕ = write of.0 None v in
          constructed_is strict (tag_or t class number) levels l.0 (λ k contents. rel of.0 (bare d) strict k v contents) c l.1 (tag_ok t class number ok small) short
          ((each of.0).is None d strict l.0 v tt l.2 e other (contents_short true (tag_or t class number) c Most short))
      row_is (row.Tagged class number false of) apart small t d strict levels v ok le e other short =
          (each of.0).is (Some (tag_or t class number)) d strict levels v (tag_ok t class number ok small) (omega (arith, some_level t (greatest nest (of.0 ∷ [])) levels le)) e other short
      row_is row.Any apart small t d strict levels v ok le e other short = any_is t strict levels v ok le e short

  module _ (rows : List TypeRow) (sound : AreSoundRows rows) where
    of_written : (turns n : ℕ) → ((m : ℕ) → RowWritten (along nothing_fits (form_by (written rows)) rows turns m) (along nothing_written write_by rows turns m) (SpelledBy rows turns m) (nesting rows m)) → (o : Option TypeRow) → slice_get rows n ≡ o
        → (t : Option tags.Tag) (d : Option ℤ) (strict : Bool) (levels : ℕ) (v : Value) → OkTag t → need t (nesting rows n) ≤ levels
        → of_row nothing_fits (form_by (written rows) (along nothing_fits (form_by (written rows)) rows turns)) o v ≡ true → IsOther d strict v → length (of_row nothing_written (write_by (along nothing_written write_by rows turns)) o t v) < Most
        → RowOr (RowIs (written rows) (SpelledBy rows turns)) o (Rattle.ber_spelling.specs.Rules.under t d) strict levels v (of_row nothing_written (write_by (along nothing_written write_by rows turns)) o t v)
    of_written turns n h None g t d strict levels v ok le e other short = absurd cc
    of_written turns n h (Some r) g t d strict levels v ok le e other short =
        row_is (written rows) (openings rows) (along nothing_fits (form_by (written rows)) rows turns) (along nothing_written write_by rows turns) (SpelledBy rows turns) (nesting rows) h (λ m k. told_of rows sound turns m k) r (sound_row rows sound n r g).apart (sound.short n r g) t d strict levels v ok (subst (λ (k : ℕ). need t k ≤ levels) (nesting_at rows sound n r g) le) e other short

    all_written : (turns n : ℕ) → RowWritten (along nothing_fits (form_by (written rows)) rows turns n) (along nothing_written write_by rows turns n) (SpelledBy rows turns n) (nesting rows n)
    all_written zero n = record { is = λ t d strict levels v ok le e other short. absurd cc }
    all_written (suc turns) n = record { is = of_written turns n (λ m. all_written turns m) (slice_get rows n) refl }

    no_fit : (turns n : ℕ) (v : Value) → along nothing_fits (form_by (written rows)) rows turns n v ≡ true → (r : TypeRow) × (slice_get rows n ≡ Some r)
    no_fit zero n v e = absurd cc
    no_fit (suc turns) n v e = by_row (slice_get rows n) refl e
      where
        by_row : (o : Option TypeRow) → slice_get rows n ≡ o → of_row nothing_fits (form_by (written rows) (along nothing_fits (form_by (written rows)) rows turns)) o v ≡ true → (r : TypeRow) × (slice_get rows n ≡ Some r)
        by_row None g e = absurd cc
        by_row (Some r) g e = (r, g)

    pub written_spelled : (n : ℕ) (v : Value) → has_form rows n v ≡ true → (strict : Bool) (limit : ℕ) → limit < Most → length (written rows n v) ≤ limit → Spells rows n strict limit v (written rows n v)
    unfolding has_form written writes
    written_spelled n v e strict limit most le =
        let r = no_fit (length rows) n v e in
        record { by = (all_written (length rows) n).is None None strict 32 v tt (nests rows sound n r.0 r.1) e (no_default strict v) (omega arith); within = le }
