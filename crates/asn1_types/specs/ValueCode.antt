-- The code by which proofs tell values apart.
use Rattle.std.specs.Prelude.{◌≡◌, ℕ, zero, suc, ℤ, pos, negsuc, Bool, true, false, List, [], ◌∷◌, refl}
use Rattle.std.proofs.Common.{sym, ap, ◌∙◌}
use base.Stored.{Gv, gnil, gnum, gcons, Coded, num}
use Rattle.asn1_types.specs.Value.{Value, boolean, integer, null, octets, bits, object_id, text, parts, list, chosen, any, MaybeValues, no_parts, absent, present, Values, no_values, value}

abbrev pub left : Gv → Gv
left gnil = gnil
left (gnum n) = gnil
left (gcons a b) = a

abbrev pub right : Gv → Gv
right gnil = gnil
right (gnum n) = gnil
right (gcons a b) = b

abbrev pub code_bool : Bool → Gv
code_bool true = gnum 1
code_bool false = gnum 0

abbrev pub bool_of : ℕ → Bool
bool_of zero = false
bool_of (suc n) = true

pub bool_back : (b : Bool) → bool_of (num (code_bool b)) ≡ b
bool_back true = refl
bool_back false = refl

abbrev pub code_int : ℤ → Gv
code_int (pos n) = gcons (gnum 0) (gnum n)
code_int (negsuc n) = gcons (gnum 1) (gnum n)

abbrev pub int_of : ℕ → ℕ → ℤ
int_of zero n = pos n
int_of (suc k) n = negsuc n

pub int_back : (z : ℤ) → int_of (num (left (code_int z))) (num (right (code_int z))) ≡ z
int_back (pos n) = refl
int_back (negsuc n) = refl

abbrev pub code_numbers : List ℕ → Gv
code_numbers [] = gnil
code_numbers (n ∷ ns) = gcons (gnum n) (code_numbers ns)

abbrev pub numbers_of : Gv → List ℕ
numbers_of gnil = []
numbers_of (gnum n) = []
numbers_of (gcons a b) = num a ∷ numbers_of b

pub numbers_back : (ns : List ℕ) → numbers_of (code_numbers ns) ≡ ns
numbers_back [] = refl
numbers_back (n ∷ ns) = ap (λ (rest : List ℕ). n ∷ rest) (numbers_back ns)

abbrev mutual
  pub code_of_value : Value → Gv
  code_of_value (boolean b) = gcons (gnum 0) (code_bool b)
  code_of_value (integer z) = gcons (gnum 1) (code_int z)
  code_of_value null = gcons (gnum 2) gnil
  code_of_value (octets os) = gcons (gnum 3) (code_numbers os)
  code_of_value (bits os unused) = gcons (gnum 4) (gcons (gnum unused) (code_numbers os))
  code_of_value (object_id arcs) = gcons (gnum 5) (code_numbers arcs)
  code_of_value (text os) = gcons (gnum 6) (code_numbers os)
  code_of_value (parts ps) = gcons (gnum 7) (code_of_parts ps)
  code_of_value (list vs) = gcons (gnum 8) (code_of_values vs)
  code_of_value (chosen which v) = gcons (gnum 9) (gcons (code_of_value v) (gnum which))
  code_of_value (any os) = gcons (gnum 10) (code_numbers os)

  pub code_of_parts : MaybeValues → Gv
  code_of_parts no_parts = gnil
  code_of_parts (absent ps) = gcons gnil (code_of_parts ps)
  code_of_parts (present v ps) = gcons (gcons (code_of_value v) gnil) (code_of_parts ps)

  pub code_of_values : Values → Gv
  code_of_values no_values = gnil
  code_of_values (value v vs) = gcons (code_of_value v) (code_of_values vs)

-- what a code is read as: a value, parts and a list of values
pub record Back : Type 0 where
  pub value_back : Value
  pub parts_back : MaybeValues
  pub values_back : Values

abbrev pub first_of_values : Values → Value
first_of_values no_values = null
first_of_values (value v vs) = v

abbrev pub by_tag : ℕ → Gv → Back → Value
by_tag zero g r = boolean (bool_of (num g))
by_tag (suc zero) g r = integer (int_of (num (left g)) (num (right g)))
by_tag (suc (suc zero)) g r = null
by_tag (suc (suc (suc zero))) g r = octets (numbers_of g)
by_tag (suc (suc (suc (suc zero)))) g r = bits (numbers_of (right g)) (num (left g))
by_tag (suc (suc (suc (suc (suc zero))))) g r = object_id (numbers_of g)
by_tag (suc (suc (suc (suc (suc (suc zero)))))) g r = text (numbers_of g)
by_tag (suc (suc (suc (suc (suc (suc (suc zero))))))) g r = parts r.parts_back
by_tag (suc (suc (suc (suc (suc (suc (suc (suc zero)))))))) g r = list r.values_back
by_tag (suc (suc (suc (suc (suc (suc (suc (suc (suc zero))))))))) g r = chosen (num (right g)) (first_of_values r.values_back)
by_tag (suc (suc (suc (suc (suc (suc (suc (suc (suc (suc n)))))))))) g r = any (numbers_of g)

abbrev pub part_of : Gv → Back → MaybeValues → MaybeValues
part_of gnil r ps = absent ps
part_of (gnum n) r ps = absent ps
part_of (gcons a b) r ps = present (first_of_values r.values_back) ps

abbrev pub back : Gv → Back
back gnil = record { value_back = null; parts_back = no_parts; values_back = no_values }
back (gnum n) = record { value_back = null; parts_back = no_parts; values_back = no_values }
back (gcons a b) = record {
  value_back = by_tag (num a) b (back b);
  parts_back = part_of a (back a) (back b).parts_back;
  values_back = value (back a).value_back (back b).values_back;
}

mutual
  pub value_is_back : (v : Value) → (back (code_of_value v)).value_back ≡ v
  value_is_back (boolean b) = ap boolean (bool_back b)
  value_is_back (integer z) = ap integer (int_back z)
  value_is_back null = refl
  value_is_back (octets os) = ap octets (numbers_back os)
  value_is_back (bits os unused) = ap (λ (ns : List ℕ). bits ns unused) (numbers_back os)
  value_is_back (object_id arcs) = ap object_id (numbers_back arcs)
  value_is_back (text os) = ap text (numbers_back os)
  value_is_back (parts ps) = ap parts (parts_are_back ps)
  value_is_back (list vs) = ap list (values_are_back vs)
  value_is_back (chosen which v) = ap (chosen which) (value_is_back v)
  value_is_back (any os) = ap any (numbers_back os)

  pub parts_are_back : (ps : MaybeValues) → (back (code_of_parts ps)).parts_back ≡ ps
  parts_are_back no_parts = refl
  parts_are_back (absent ps) = ap absent (parts_are_back ps)
  parts_are_back (present v ps) = λ i. present (value_is_back v i) (parts_are_back ps i)

  pub values_are_back : (vs : Values) → (back (code_of_values vs)).values_back ≡ vs
  values_are_back no_values = refl
  values_are_back (value v vs) = λ i. value (value_is_back v i) (values_are_back vs i)

abbrev pub coded_value : Coded Value
coded_value = record {
  code = code_of_value;
  inj = λ x y e. sym (value_is_back x) ∙ ap (λ g. (back g).value_back) e ∙ value_is_back y;
}
