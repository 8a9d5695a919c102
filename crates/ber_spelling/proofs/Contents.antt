-- The rules of primitive contents against what they are.
use Rattle.std.proofs.Common.{◌≡◌, ℕ, ℤ, ◌≤ℤ◌, Bool, true, false, not, ◌||◌, cond, List, [], ◌∷◌, length, Option, Some, None, refl, sym, ap, ◌∙◌, subst, arith, ◌⊎◌, inl, inr}
use Rattle.std.specs.Prelude.{nat_le, nat_eq, int_lt}
use Rattle.std.proofs.lemmas.Bool.{eqb-true, leb-true, le-leb, and_parts}
use Rattle.std.proofs.lemmas.Int.{ints}
use Rattle.asn1_types.specs.Value.{Value, boolean, integer, null, octets, bits, object_id, text, parts, list, chosen, any}
use Rattle.asn1_types.specs.declared.row.Item.{Item}
use Rattle.asn1_types.specs.Defaults.{is_item}
use Rattle.osi_base.specs.Octets.{AreOctets}
use Rattle.ber_spelling.specs.Primitives.{is_padded, signed_of, is_integer, integer_of}
use Rattle.ber_spelling.specs.Rules.{boolean_rule, is_strict_boolean, in_range, ranged, integer_rule, listed, enumerated_rule, null_rule}
use Rattle.ber_spelling.specs.Spelling.{IsInteger, BooleanIs, IntegerIs, EnumeratedIs, NullIs}

not_true : (b : Bool) → not b ≡ true → b ≡ false
not_true true e = absurd cc
not_true false e = refl

int_le : (a b : ℤ) → int_lt b a ≡ false → a ≤ℤ b
int_le a b e = grind (arith, ints)

pub int_not_lt : (a b : ℤ) → a ≤ℤ b → int_lt b a ≡ false
int_not_lt a b h = grind (arith, ints)

pub null_sound : (c : List ℕ) (v : Value) → AreOctets c → null_rule c ≡ Some v → NullIs v c
null_sound [] v are e = subst (λ (x : Value). NullIs x []) (some_is null v e) refl
  where
    some_is : (x y : Value) → Some x ≡ Some y → x ≡ y
    some_is x y e = cc
null_sound (o ∷ c) v are e = absurd cc

pub null_complete : (c : List ℕ) (v : Value) → NullIs v c → null_rule c ≡ Some v
null_complete c null h = ap null_rule h
null_complete c (boolean b) h = absurd h
null_complete c (integer z) h = absurd h
null_complete c (octets os) h = absurd h
null_complete c (bits os n) h = absurd h
null_complete c (object_id os) h = absurd h
null_complete c (text os) h = absurd h
null_complete c (parts ps) h = absurd h
null_complete c (list vs) h = absurd h
null_complete c (chosen n v) h = absurd h
null_complete c (any os) h = absurd h

integer_parts : (c : List ℕ) (z : ℤ) → integer_of c ≡ Some z → IsInteger c z
unfolding integer_of
integer_parts c z e = by_test (is_integer c) refl e
  where
    by_test : (b : Bool) → is_integer c ≡ b → cond b (Some (signed_of c)) None ≡ Some z → IsInteger c z
    by_test true t e =
        let a = and_parts _ (not (is_padded c)) t in
        let b = and_parts (nat_le 1 (length c)) (nat_le (length c) 8) a.0 in
        record { some = leb-true 1 (length c) b.0; few = leb-true (length c) 8 b.1; shortest = not_true (is_padded c) a.1; number = let same : Some (signed_of c) ≡ Some z = e in cc }
    by_test false t e = absurd cc

integer_whole : (c : List ℕ) (z : ℤ) → IsInteger c z → integer_of c ≡ Some z
unfolding integer_of
integer_whole c z h = rw (le-leb 1 (length c) h.some, le-leb (length c) 8 h.few, h.shortest) (ap (λ (x : ℤ). Some x) h.number)

pub integer_sound : (low high : ℤ) (c : List ℕ) (v : Value) → AreOctets c → integer_rule low high c ≡ Some v → IntegerIs low high v c
integer_sound low high c v are e = by_number (integer_of c) refl e
  where
    in_test : (z : ℤ) → integer_of c ≡ Some z → (b : Bool) → in_range low high z ≡ b → cond b (Some (integer z)) None ≡ Some v → IntegerIs low high v c
    in_test z i true t e =
        let a = and_parts (not (int_lt z low)) (not (int_lt high z)) t in
        let same : integer z ≡ v = let s : Some (integer z) ≡ Some v = e in cc in
        subst (λ (x : Value). IntegerIs low high x c) same (integer_parts c z i, int_le low z (not_true _ a.0), int_le z high (not_true _ a.1))
    in_test z i false t e = absurd cc

    by_number : (o : Option ℤ) → integer_of c ≡ o → ranged low high o ≡ Some v → IntegerIs low high v c
    by_number None i e = absurd cc
    by_number (Some z) i e = in_test z i (in_range low high z) refl e

pub integer_complete : (low high : ℤ) (c : List ℕ) (v : Value) → IntegerIs low high v c → integer_rule low high c ≡ Some v
integer_complete low high c (integer z) h = rw (integer_whole c z h.0, int_not_lt low z h.1, int_not_lt z high h.2) refl
integer_complete low high c null h = absurd h
integer_complete low high c (boolean b) h = absurd h
integer_complete low high c (octets os) h = absurd h
integer_complete low high c (bits os n) h = absurd h
integer_complete low high c (object_id os) h = absurd h
integer_complete low high c (text os) h = absurd h
integer_complete low high c (parts ps) h = absurd h
integer_complete low high c (list vs) h = absurd h
integer_complete low high c (chosen n v) h = absurd h
integer_complete low high c (any os) h = absurd h

-- ---- BOOLEAN

strict_octet : (n : ℕ) → (nat_eq n 0 || nat_eq n 255) ≡ true → (n ≡ 0) ⊎ (n ≡ 255)
strict_octet n e = by_test (nat_eq n 0) refl e
  where
    by_test : (b : Bool) → nat_eq n 0 ≡ b → (b || nat_eq n 255) ≡ true → (n ≡ 0) ⊎ (n ≡ 255)
    by_test true t e = inl (eqb-true n 0 t)
    by_test false t e = inr (eqb-true n 255 e)

pub boolean_sound : (strict : Bool) (c : List ℕ) (v : Value) → AreOctets c → boolean_rule c ≡ Some v → (strict ≡ true → is_strict_boolean c ≡ true) → BooleanIs strict v c
boolean_sound strict [] v are e k = absurd cc
boolean_sound strict (o ∷ []) v are e k =
    let same : boolean (not (nat_eq o 0)) ≡ v = let s : Some (boolean (not (nat_eq o 0))) ≡ Some v = e in cc in
    subst (λ (x : Value). BooleanIs strict x (o ∷ [])) same (o, refl, refl, λ s. strict_octet o (k s))
boolean_sound strict (o ∷ p ∷ c) v are e k = absurd cc

strict_test : (n : ℕ) → (n ≡ 0) ⊎ (n ≡ 255) → (nat_eq n 0 || nat_eq n 255) ≡ true
strict_test n (inl e) = rw e refl
strict_test n (inr e) = rw e refl

pub boolean_complete : (strict : Bool) (c : List ℕ) (v : Value) → BooleanIs strict v c → (boolean_rule c ≡ Some v) × (strict ≡ true → is_strict_boolean c ≡ true)
boolean_complete strict c (boolean b) h =
    (ap boolean_rule h.1 ∙ ap (λ (x : Bool). Some (boolean x)) (sym h.2), λ s. ap is_strict_boolean h.1 ∙ strict_test h.0 (h.3 s))
boolean_complete strict c (integer z) h = absurd h
boolean_complete strict c null h = absurd h
boolean_complete strict c (octets os) h = absurd h
boolean_complete strict c (bits os n) h = absurd h
boolean_complete strict c (object_id os) h = absurd h
boolean_complete strict c (text os) h = absurd h
boolean_complete strict c (parts ps) h = absurd h
boolean_complete strict c (list vs) h = absurd h
boolean_complete strict c (chosen n v) h = absurd h
boolean_complete strict c (any os) h = absurd h

-- ---- ENUMERATED

pub enumerated_sound : (items : List Item) (c : List ℕ) (v : Value) → enumerated_rule items c ≡ Some v → EnumeratedIs items v c
enumerated_sound items c v e = by_number (integer_of c) refl e
  where
    in_test : (z : ℤ) → integer_of c ≡ Some z → (b : Bool) → is_item items z ≡ b → cond b (Some (integer z)) None ≡ Some v → EnumeratedIs items v c
    in_test z i true t e =
        let same : integer z ≡ v = let s : Some (integer z) ≡ Some v = e in cc in
        subst (λ (x : Value). EnumeratedIs items x c) same (integer_parts c z i, t)
    in_test z i false t e = absurd cc

    by_number : (o : Option ℤ) → integer_of c ≡ o → listed items o ≡ Some v → EnumeratedIs items v c
    by_number None i e = absurd cc
    by_number (Some z) i e = in_test z i (is_item items z) refl e

pub enumerated_complete : (items : List Item) (c : List ℕ) (v : Value) → EnumeratedIs items v c → enumerated_rule items c ≡ Some v
enumerated_complete items c (integer z) h = rw (integer_whole c z h.0, h.1) refl
enumerated_complete items c null h = absurd h
enumerated_complete items c (boolean b) h = absurd h
enumerated_complete items c (octets os) h = absurd h
enumerated_complete items c (bits os n) h = absurd h
enumerated_complete items c (object_id os) h = absurd h
enumerated_complete items c (text os) h = absurd h
enumerated_complete items c (parts ps) h = absurd h
enumerated_complete items c (list vs) h = absurd h
enumerated_complete items c (chosen n v) h = absurd h
enumerated_complete items c (any os) h = absurd h
