-- Rows behind a size: contents and values are one another's.
use Rattle.std.proofs.Common.{◌≡◌, ℕ, ℤ, Bool, true, false, not, ◌&&◌, List, length, Option, Some, None, refl, sym, ap, ◌∙◌, subst}
use Rattle.std.proofs.lemmas.Bool.{and_parts}
use Rattle.std.specs.Prelude.{nat_le, int_lt, option_map}
use Rattle.std.specs.List.{list_all}
use Rattle.osi_base.specs.Oid.{is_oid}
use Rattle.asn1_types.specs.declared.row.Item.{Item}
use Rattle.asn1_types.specs.declared.row.TextKind.{TextKind}
use Rattle.asn1_types.specs.Defaults.{is_item}
use Rattle.asn1_types.specs.Fits.{is_number, has_32_bits, is_octet, is_text, integer_fits, enumerated_fits, octets_fit, text_fits, object_id_fits}
use Rattle.asn1_types.specs.Value.{Value, boolean, integer, null, octets, bits, object_id, text, parts, list, chosen, any}
use Rattle.ber_spelling.specs.Rules.{in_range}
use Rattle.osi_base.specs.Octets.{AreOctets}
use Rattle.ber_spelling.specs.Primitives.{integer_of}
use Rattle.packed_codec.specs.Numbers.{is_size, integer_octets}
use Rattle.ber_spelling.specs.Primitives.{arcs_of}
use Rattle.ber_spelling.specs.Rules.{object_id_rule}
use Rattle.packed_codec.specs.ObjectIds.{arcs_octets}
use Rattle.packed_codec.specs.Rules.{checked, number_rule, any_size, at_most, octets_rule, text_rule}
use Rattle.packed_codec.specs.Writing.{Writer, counted, with_size, number_written, octets_written, text_written, object_id_written, items}
use Rattle.packed_codec.proofs.Spelled.{Sized, some_if, octets_all}
use Rattle.packed_codec.proofs.Integers.{integer_sound, integer_complete}
use Rattle.packed_codec.proofs.Oids.{arcs_sound, arcs_complete}

-- ---- INTEGER and ENUMERATED

abbrev number_fits : (ℤ → Bool) → Value → Bool
number_fits test (integer z) = is_number z && test z
number_fits test v = false

number_sound : (test : ℤ → Bool) (c : List ℕ) (v : Value) → AreOctets c → number_rule test c ≡ Some v → (number_written v ≡ with_size c) × (number_fits test v ≡ true) × (items v ≡ 0)
number_sound test c v are e = by_number (integer_of c) refl e
  where
    by_number : (o : Option ℤ) → integer_of c ≡ o → checked test o ≡ Some v → (number_written v ≡ with_size c) × (number_fits test v ≡ true) × (items v ≡ 0)
    by_number None i e = absurd cc
    by_number (Some z) i e =
        let t = some_if (test z) (integer z) v e in
        let s = integer_sound c z are i in
        subst (λ (x : Value). (number_written x ≡ with_size c) × (number_fits test x ≡ true) × (items x ≡ 0)) t.1
        (ap with_size s.octets, rw (s.number, t.0) refl, refl)

number_complete : (test : ℤ → Bool) (v : Value) → number_fits test v ≡ true → (c : List ℕ) × (number_written v ≡ with_size c) × (is_size (length c) ≡ true) × (number_rule test c ≡ Some v) × (items v ≡ 0)
number_complete test (integer z) e =
    let t = and_parts (is_number z) (test z) e in
    let r = integer_complete z t.0 in
    (integer_octets z, refl, r.size, rw (r.reads, t.1) refl, refl)
number_complete test null e = absurd cc
number_complete test (boolean b) e = absurd cc
number_complete test (octets os) e = absurd cc
number_complete test (bits os n) e = absurd cc
number_complete test (object_id os) e = absurd cc
number_complete test (text os) e = absurd cc
number_complete test (parts ps) e = absurd cc
number_complete test (list vs) e = absurd cc
number_complete test (chosen n v) e = absurd cc
number_complete test (any os) e = absurd cc

number_sized : (test : ℤ → Bool) → Sized (number_fits test) number_written with_size is_size (number_rule test)
number_sized test = record { sound = λ c v are few e. number_sound test c v are e; complete = number_complete test }

-- another word for the same test
abbrev Retested : (Value → Bool) → (Value → Bool) → Type 0
Retested f g = (v : Value) → f v ≡ g v

retest : (f g : Value → Bool) (write : Writer) (wrap : List ℕ → List ℕ) (few : ℕ → Bool) (rule : List ℕ → Option Value) → Retested f g → Sized f write wrap few rule → Sized g write wrap few rule
retest f g write wrap few rule same h = record {
  sound = λ c v are l e. let x = h.sound c v are l e in (x.0, sym (same v) ∙ x.1, x.2);
  complete = λ v e. h.complete v (same v ∙ e);
}

and_assoc : (a b c : Bool) → (a && (b && c)) ≡ ((a && b) && c)
and_assoc true b c = refl
and_assoc false b c = refl

integer_test : (low high : ℤ) → Retested (number_fits (in_range low high)) (integer_fits low high)
integer_test low high (integer z) = and_assoc (is_number z) (not (int_lt z low)) (not (int_lt high z))
integer_test low high null = refl
integer_test low high (boolean b) = refl
integer_test low high (octets os) = refl
integer_test low high (bits os n) = refl
integer_test low high (object_id os) = refl
integer_test low high (text os) = refl
integer_test low high (parts ps) = refl
integer_test low high (list vs) = refl
integer_test low high (chosen n v) = refl
integer_test low high (any os) = refl

item_test : (named : List Item) → Retested (number_fits (is_item named)) (enumerated_fits named)
item_test named (integer z) = refl
item_test named null = refl
item_test named (boolean b) = refl
item_test named (octets os) = refl
item_test named (bits os n) = refl
item_test named (object_id os) = refl
item_test named (text os) = refl
item_test named (parts ps) = refl
item_test named (list vs) = refl
item_test named (chosen n v) = refl
item_test named (any os) = refl

pub integer_sized : (low high : ℤ) → Sized (integer_fits low high) number_written with_size is_size (number_rule (in_range low high))
integer_sized low high = retest _ _ number_written with_size is_size _ (integer_test low high) (number_sized (in_range low high))

pub enumerated_sized : (named : List Item) → Sized (enumerated_fits named) number_written with_size is_size (number_rule (is_item named))
enumerated_sized named = retest _ _ number_written with_size is_size _ (item_test named) (number_sized (is_item named))

-- ---- strings

octets_complete : (most : ℕ) (v : Value) → octets_fit most v ≡ true → (c : List ℕ) × (octets_written v ≡ counted c) × (at_most most (length c) ≡ true) × (octets_rule c ≡ Some v) × (items v ≡ 0)
octets_complete most (octets os) e = (os, refl, (and_parts (list_all is_octet os) (nat_le (length os) most) e).1, refl, refl)
octets_complete most null e = absurd cc
octets_complete most (boolean b) e = absurd cc
octets_complete most (integer z) e = absurd cc
octets_complete most (bits os n) e = absurd cc
octets_complete most (object_id os) e = absurd cc
octets_complete most (text os) e = absurd cc
octets_complete most (parts ps) e = absurd cc
octets_complete most (list vs) e = absurd cc
octets_complete most (chosen n v) e = absurd cc
octets_complete most (any os) e = absurd cc

pub octets_sized : (most : ℕ) → Sized (octets_fit most) octets_written counted (at_most most) octets_rule
octets_sized most = record {
  sound = λ c v are few e.
      let same : octets c ≡ v = cc in
      subst (λ (x : Value). (octets_written x ≡ counted c) × (octets_fit most x ≡ true) × (items x ≡ 0)) same (refl, rw (octets_all c are, few) refl, refl);
  complete = octets_complete most;
}

text_complete : (kind : TextKind) (v : Value) → text_fits kind v ≡ true → (c : List ℕ) × (text_written v ≡ counted c) × (any_size (length c) ≡ true) × (text_rule kind c ≡ Some v) × (items v ≡ 0)
text_complete kind (text os) e = let t = and_parts (list_all is_octet os) (is_text kind os) e in (os, refl, refl, rw t.1 refl, refl)
text_complete kind null e = absurd cc
text_complete kind (boolean b) e = absurd cc
text_complete kind (integer z) e = absurd cc
text_complete kind (octets os) e = absurd cc
text_complete kind (bits os n) e = absurd cc
text_complete kind (object_id os) e = absurd cc
text_complete kind (parts ps) e = absurd cc
text_complete kind (list vs) e = absurd cc
text_complete kind (chosen n v) e = absurd cc
text_complete kind (any os) e = absurd cc

pub text_sized : (kind : TextKind) → Sized (text_fits kind) text_written counted any_size (text_rule kind)
text_sized kind = record {
  sound = λ c v are few e.
      let t = some_if (is_text kind c) (text c) v e in
      subst (λ (x : Value). (text_written x ≡ counted c) × (text_fits kind x ≡ true) × (items x ≡ 0)) t.1 (refl, rw (octets_all c are, t.0) refl, refl);
  complete = text_complete kind;
}

object_id_sound : (c : List ℕ) (v : Value) → AreOctets c → object_id_rule c ≡ Some v → (object_id_written v ≡ counted c) × (object_id_fits v ≡ true) × (items v ≡ 0)
object_id_sound c v are e = by_arcs (arcs_of c) refl e
  where
    by_arcs : (o : Option (List ℕ)) → arcs_of c ≡ o → option_map object_id o ≡ Some v → (object_id_written v ≡ counted c) × (object_id_fits v ≡ true) × (items v ≡ 0)
    by_arcs None i e = absurd cc
    by_arcs (Some arcs) i e =
        let same : object_id arcs ≡ v = cc in
        let s = arcs_sound c arcs are i in
        subst (λ (x : Value). (object_id_written x ≡ counted c) × (object_id_fits x ≡ true) × (items x ≡ 0)) same
        (ap counted s.octets, rw (s.oid, s.small) refl, refl)

object_id_complete : (v : Value) → object_id_fits v ≡ true → (c : List ℕ) × (object_id_written v ≡ counted c) × (any_size (length c) ≡ true) × (object_id_rule c ≡ Some v) × (items v ≡ 0)
object_id_complete (object_id arcs) e =
    let t = and_parts (is_oid arcs) (list_all has_32_bits arcs) e in
    (arcs_octets arcs, refl, refl, rw (arcs_complete arcs t.0 t.1) refl, refl)
object_id_complete null e = absurd cc
object_id_complete (boolean b) e = absurd cc
object_id_complete (integer z) e = absurd cc
object_id_complete (octets os) e = absurd cc
object_id_complete (bits os n) e = absurd cc
object_id_complete (text os) e = absurd cc
object_id_complete (parts ps) e = absurd cc
object_id_complete (list vs) e = absurd cc
object_id_complete (chosen n v) e = absurd cc
object_id_complete (any os) e = absurd cc

pub object_id_sized : Sized object_id_fits object_id_written counted any_size object_id_rule
object_id_sized = record { sound = λ c v are few e. object_id_sound c v are e; complete = object_id_complete }
