-- Heads whose numbers, codes and octets are ones that are read fit their rows, in BER and in the packed syntax.
use Rattle.std.proofs.Common.{◌≡◌, ℕ, ◌^◌, ◌<◌, ◌≤◌, ℤ, pos, negsuc, Bool, true, false, not, ◌&&◌, List, Option, Some, None, refl, ap, arith}
use Rattle.std.specs.Prelude.{nat_lt, nat_le}
use Rattle.std.proofs.lemmas.Bool.{lt-ltb, le-ltb, ltb-true}
use Rattle.std.proofs.lemmas.Bool.Decides.{nat_tests}
use Rattle.osi_base.specs.declared.layer_words.ProblemKind.{ProblemKind}
use Rattle.osi_base.specs.declared.layer_words.ProblemKind.TheVariants as kinds
use Rattle.asn1_types.specs.Value.{integer, object_id}
use Rattle.asn1_types.specs.Whole.{is_whole}
use Rattle.asn1_types.specs.Fits.{is_number, integer_fits, object_id_fits, has_form}
use Rattle.packed_codec.specs.Writing.{items}
use Rattle.packed_codec.specs.Laws.{packs}
use Rattle.stub_tables.specs.declared.operation.Code.{Code}
use Rattle.stub_tables.specs.declared.operation.Code.TheVariants.{Local, Global}
use Rattle.stub_tables.specs.Readable.{code_fits}
use Rattle.apdu_spelling.specs.Heads.{Head, invoke, result, error, reject}
use Rattle.apdu_spelling.specs.Rows.{head_rows, apdu_row, packed_apdu_row}
use Rattle.apdu_spelling.specs.Values.{ber_value, packed_value}
use Rattle.apdu_spelling.specs.Writing.{is_identifier, is_identifier_or_none}

pub both : (a b : Bool) → a ≡ true → b ≡ true → (a && b) ≡ true
both true b e f = f
both false b e f = absurd cc

not_above : (n m : ℕ) → m ≤ n → not (nat_lt n m) ≡ true
not_above n m le = ap not (le-ltb n m le)

le_of : (n m : ℕ) → nat_le n m ≡ true → n ≤ m
le_of n m e = grind (arith, nat_tests)

pub identifier_fits : (id : ℤ) → is_identifier id ≡ true → integer_fits (negsuc 2147483647) (pos 2147483647) (integer id) ≡ true
identifier_fits (pos n) e =
    let high : n ≤ 2147483647 = le_of n 2147483647 e in
    both (nat_lt n (2 ^ 63) && true) (not (nat_lt 2147483647 n)) (both (nat_lt n (2 ^ 63)) true (lt-ltb n (2 ^ 63) (omega arith)) refl) (not_above 2147483647 n high)
identifier_fits (negsuc n) e =
    let low : n ≤ 2147483647 = le_of n 2147483647 e in
    both (nat_lt n (2 ^ 63) && not (nat_lt 2147483647 n)) true (both (nat_lt n (2 ^ 63)) (not (nat_lt 2147483647 n)) (lt-ltb n (2 ^ 63) (omega arith)) (not_above 2147483647 n low)) refl

pub number_fits : (z : ℤ) → is_number z ≡ true → integer_fits (negsuc 9223372036854775807) (pos 9223372036854775807) (integer z) ≡ true
number_fits (pos n) e =
    let lt : n < 2 ^ 63 = ltb-true n (2 ^ 63) e in
    both (nat_lt n (2 ^ 63) && true) (not (nat_lt 9223372036854775807 n)) (both (nat_lt n (2 ^ 63)) true e refl) (not_above 9223372036854775807 n (omega arith))
number_fits (negsuc n) e =
    let lt : n < 2 ^ 63 = ltb-true n (2 ^ 63) e in
    both (nat_lt n (2 ^ 63) && not (nat_lt 9223372036854775807 n)) true (both (nat_lt n (2 ^ 63)) (not (nat_lt 9223372036854775807 n)) e (not_above 9223372036854775807 n (omega arith))) refl

abbrev id_test : ℤ → Bool
id_test id = integer_fits (negsuc 2147483647) (pos 2147483647) (integer id)

abbrev number_test : ℤ → Bool
number_test z = integer_fits (negsuc 9223372036854775807) (pos 9223372036854775807) (integer z)

abbrev code_test : Code → Bool
code_test (Local number) = number_test number
code_test (Global arcs) = object_id_fits (object_id arcs)

code_passes : (c : Code) → code_fits c ≡ true → code_test c ≡ true
code_passes (Local n) e = number_fits n e
code_passes (Global arcs) e = e

-- ---- the tests of a head, as its row makes them

abbrev any_test : Option (List ℕ) → Bool
any_test None = true
any_test (Some os) = is_whole os && true

abbrev pub AreWhole : Option (List ℕ) → Type 0
AreWhole None = Unit {0}
AreWhole (Some os) = is_whole os ≡ true

any_passes : (os : List ℕ) → is_whole os ≡ true → any_test (Some os) ≡ true
any_passes os h = both (is_whole os) true h refl

three : (a b c : Bool) → a ≡ true → b ≡ true → c ≡ true → (a && (b && c)) ≡ true
three a b c e f g = both a (b && c) e (both b c f g)

four : (a b c d : Bool) → a ≡ true → b ≡ true → c ≡ true → d ≡ true → (a && (b && (c && d))) ≡ true
four a b c d e f g h = both a (b && (c && d)) e (three b c d f g h)

invoke_fits : (id : ℤ) (l : Option ℤ) (c : Code) (os : Option (List ℕ)) → id_test id ≡ true → is_identifier_or_none l ≡ true → code_test c ≡ true → AreWhole os → has_form head_rows apdu_row (ber_value (invoke id l c os)) ≡ true
unfolding has_form
invoke_fits id None (Local n) None i l c w = three (id_test id) (code_test (Local n)) true i c refl
invoke_fits id None (Global arcs) None i l c w = three (id_test id) (code_test (Global arcs)) true i c refl
invoke_fits id None (Local n) (Some os) i l c w = three (id_test id) (code_test (Local n)) (any_test (Some os)) i c (any_passes os w)
invoke_fits id None (Global arcs) (Some os) i l c w = three (id_test id) (code_test (Global arcs)) (any_test (Some os)) i c (any_passes os w)
invoke_fits id (Some k) (Local n) None i l c w = four (id_test id) (id_test k) (code_test (Local n)) true i (identifier_fits k l) c refl
invoke_fits id (Some k) (Global arcs) None i l c w = four (id_test id) (id_test k) (code_test (Global arcs)) true i (identifier_fits k l) c refl
invoke_fits id (Some k) (Local n) (Some os) i l c w = four (id_test id) (id_test k) (code_test (Local n)) (any_test (Some os)) i (identifier_fits k l) c (any_passes os w)
invoke_fits id (Some k) (Global arcs) (Some os) i l c w = four (id_test id) (id_test k) (code_test (Global arcs)) (any_test (Some os)) i (identifier_fits k l) c (any_passes os w)

error_fits : (id : ℤ) (c : Code) (os : Option (List ℕ)) → id_test id ≡ true → code_test c ≡ true → AreWhole os → has_form head_rows apdu_row (ber_value (error id c os)) ≡ true
unfolding has_form
error_fits id (Local n) None i c w = three (id_test id) (code_test (Local n)) true i c refl
error_fits id (Global arcs) None i c w = three (id_test id) (code_test (Global arcs)) true i c refl
error_fits id (Local n) (Some os) i c w = three (id_test id) (code_test (Local n)) (any_test (Some os)) i c (any_passes os w)
error_fits id (Global arcs) (Some os) i c w = three (id_test id) (code_test (Global arcs)) (any_test (Some os)) i c (any_passes os w)

none_fits : (id : ℤ) → id_test id ≡ true → has_form head_rows apdu_row (ber_value (result id None)) ≡ true
unfolding has_form
none_fits id i = both (id_test id) true i refl

result_fits : (id : ℤ) (c : Code) (os : List ℕ) → id_test id ≡ true → code_test c ≡ true → is_whole os ≡ true → has_form head_rows apdu_row (ber_value (result id (Some (record { code = c; octets = os })))) ≡ true
unfolding has_form
result_fits id (Local n) os i c w = three (id_test id) (code_test (Local n) && any_test (Some os)) true i (both (code_test (Local n)) (any_test (Some os)) c (any_passes os w)) refl
result_fits id (Global arcs) os i c w = three (id_test id) (code_test (Global arcs) && any_test (Some os)) true i (both (code_test (Global arcs)) (any_test (Some os)) c (any_passes os w)) refl

-- of a reject, in both
module _ (number : ℤ) (n : number_test number ≡ true) where
  reject_fits : (id : Option ℤ) (k : ProblemKind) → is_identifier_or_none id ≡ true → has_form head_rows apdu_row (ber_value (reject id (record { kind = k; number = number }))) ≡ true
  unfolding has_form
  reject_fits None kinds.General i = both (number_test number) true n refl
  reject_fits None kinds.Invoke i = both (number_test number) true n refl
  reject_fits None kinds.Result i = both (number_test number) true n refl
  reject_fits None kinds.Error i = both (number_test number) true n refl
  reject_fits (Some id) kinds.General i = three (id_test id) (number_test number) true (identifier_fits id i) n refl
  reject_fits (Some id) kinds.Invoke i = three (id_test id) (number_test number) true (identifier_fits id i) n refl
  reject_fits (Some id) kinds.Result i = three (id_test id) (number_test number) true (identifier_fits id i) n refl
  reject_fits (Some id) kinds.Error i = three (id_test id) (number_test number) true (identifier_fits id i) n refl

  reject_packs : (id : Option ℤ) (k : ProblemKind) → is_identifier_or_none id ≡ true → packs head_rows packed_apdu_row (packed_value (reject id (record { kind = k; number = number }))) ≡ true
  unfolding packs
  reject_packs None kinds.General i = both (number_test number) true n refl
  reject_packs None kinds.Invoke i = both (number_test number) true n refl
  reject_packs None kinds.Result i = both (number_test number) true n refl
  reject_packs None kinds.Error i = both (number_test number) true n refl
  reject_packs (Some id) kinds.General i = three (id_test id) (number_test number) true (identifier_fits id i) n refl
  reject_packs (Some id) kinds.Invoke i = three (id_test id) (number_test number) true (identifier_fits id i) n refl
  reject_packs (Some id) kinds.Result i = three (id_test id) (number_test number) true (identifier_fits id i) n refl
  reject_packs (Some id) kinds.Error i = three (id_test id) (number_test number) true (identifier_fits id i) n refl

-- ---- the packed syntax

invoke_packs : (id : ℤ) (l : Option ℤ) (c : Code) (os : Option (List ℕ)) → id_test id ≡ true → is_identifier_or_none l ≡ true → code_test c ≡ true → packs head_rows packed_apdu_row (packed_value (invoke id l c os)) ≡ true
unfolding packs
invoke_packs id None (Local n) os i l c = three (id_test id) (code_test (Local n)) true i c refl
invoke_packs id None (Global arcs) os i l c = three (id_test id) (code_test (Global arcs)) true i c refl
invoke_packs id (Some k) (Local n) os i l c = four (id_test id) (id_test k) (code_test (Local n)) true i (identifier_fits k l) c refl
invoke_packs id (Some k) (Global arcs) os i l c = four (id_test id) (id_test k) (code_test (Global arcs)) true i (identifier_fits k l) c refl

error_packs : (id : ℤ) (c : Code) (os : Option (List ℕ)) → id_test id ≡ true → code_test c ≡ true → packs head_rows packed_apdu_row (packed_value (error id c os)) ≡ true
unfolding packs
error_packs id (Local n) os i c = three (id_test id) (code_test (Local n)) true i c refl
error_packs id (Global arcs) os i c = three (id_test id) (code_test (Global arcs)) true i c refl

none_packs : (id : ℤ) → id_test id ≡ true → packs head_rows packed_apdu_row (packed_value (result id None)) ≡ true
unfolding packs
none_packs id i = both (id_test id) true i refl

result_packs : (id : ℤ) (c : Code) (os : List ℕ) → id_test id ≡ true → code_test c ≡ true → packs head_rows packed_apdu_row (packed_value (result id (Some (record { code = c; octets = os })))) ≡ true
unfolding packs
result_packs id (Local n) os i c = three (id_test id) (code_test (Local n)) true i c refl
result_packs id (Global arcs) os i c = three (id_test id) (code_test (Global arcs)) true i c refl

-- ---- all heads

abbrev IsRead : Head → Type 0
IsRead (invoke id l c os) = (is_identifier id ≡ true) × (is_identifier_or_none l ≡ true) × (code_fits c ≡ true)
IsRead (result id None) = is_identifier id ≡ true
IsRead (result id (Some o)) = (is_identifier id ≡ true) × (code_fits o.code ≡ true)
IsRead (error id c os) = (is_identifier id ≡ true) × (code_fits c ≡ true)
IsRead (reject id p) = (is_identifier_or_none id ≡ true) × (is_number p.number ≡ true)

abbrev pub HasNumbers : Head → Type 0
HasNumbers h = IsRead h

abbrev pub HoldsWhole : Head → Type 0
HoldsWhole (invoke id l c os) = AreWhole os
HoldsWhole (result id None) = Unit {0}
HoldsWhole (result id (Some o)) = is_whole o.octets ≡ true
HoldsWhole (error id c os) = AreWhole os
HoldsWhole (reject id p) = Unit {0}

pub head_fits : (h : Head) → HasNumbers h → HoldsWhole h → has_form head_rows apdu_row (ber_value h) ≡ true
head_fits (invoke id l c os) r w = invoke_fits id l c os (identifier_fits id r.0) r.1 (code_passes c r.2) w
head_fits (result id None) r w = none_fits id (identifier_fits id r)
head_fits (result id (Some o)) r w = result_fits id o.code o.octets (identifier_fits id r.0) (code_passes o.code r.1) w
head_fits (error id c os) r w = error_fits id c os (identifier_fits id r.0) (code_passes c r.1) w
head_fits (reject id p) r w = reject_fits p.number (number_fits p.number r.1) id p.kind r.0

pub head_packs : (h : Head) → HasNumbers h → packs head_rows packed_apdu_row (packed_value h) ≡ true
head_packs (invoke id l c os) r = invoke_packs id l c os (identifier_fits id r.0) r.1 (code_passes c r.2)
head_packs (result id None) r = none_packs id (identifier_fits id r)
head_packs (result id (Some o)) r = result_packs id o.code o.octets (identifier_fits id r.0) (code_passes o.code r.1)
head_packs (error id c os) r = error_packs id c os (identifier_fits id r.0) (code_passes c r.1)
head_packs (reject id p) r = reject_packs p.number (number_fits p.number r.1) id p.kind r.0

-- no list stands in a head
pub head_items : (h : Head) → items (packed_value h) ≡ 0
head_items (invoke id None (Local n) os) = refl
head_items (invoke id None (Global arcs) os) = refl
head_items (invoke id (Some l) (Local n) os) = refl
head_items (invoke id (Some l) (Global arcs) os) = refl
head_items (result id None) = refl
head_items (result id (Some o)) = by_code o.code
  where
    by_code : (c : Code) → items (packed_value (result id (Some (record { code = c; octets = o.octets })))) ≡ 0
    by_code (Local n) = refl
    by_code (Global arcs) = refl
head_items (error id (Local n) os) = refl
head_items (error id (Global arcs) os) = refl
head_items (reject None p) = refl
head_items (reject (Some id) p) = refl
