-- The identifiers of heads that octets spell have 32 bits.
use Rattle.std.proofs.Common.{◌≡◌, ℕ, ◌^◌, ℤ, pos, negsuc, Bool, true, false, not, ◌&&◌, List, Option, Some, None, refl, arith}
use Rattle.std.specs.Prelude.{nat_lt, nat_le}
use Rattle.std.proofs.lemmas.Bool.{and_parts}
use Rattle.std.proofs.lemmas.Bool.Decides.{nat_tests}
use Rattle.osi_base.specs.declared.syntax.Syntax.{Syntax}
use Rattle.osi_base.specs.declared.syntax.Syntax.TheVariants.{Ber, Der, Packed}
use Rattle.osi_base.specs.declared.layer_words.ProblemKind.{ProblemKind}
use Rattle.osi_base.specs.declared.layer_words.ProblemKind.TheVariants as kinds
use Rattle.asn1_types.specs.Value.{integer}
use Rattle.asn1_types.specs.Fits.{integer_fits, has_form}
use Rattle.osi_base.specs.Octets.{AreOctets}
use Rattle.ber_spelling.proofs.Fitting.{spelled_fits}
use Rattle.packed_codec.specs.Laws.{packs}
use Rattle.stub_tables.specs.declared.operation.Code.{Code}
use Rattle.stub_tables.specs.declared.operation.Code.TheVariants.{Local, Global}
use Rattle.apdu_spelling.specs.Heads.{Head, invoke, result, error, reject}
use Rattle.apdu_spelling.specs.Rows.{head_rows, apdu_row, packed_apdu_row}
use Rattle.apdu_spelling.specs.Values.{ber_value, packed_value}
use Rattle.apdu_spelling.specs.Spellings.{SpellsHead}
use Rattle.apdu_spelling.specs.Writing.{is_identifier, is_identifier_or_none}
use Rattle.apdu_spelling.specs.Laws.{has_identifiers}

abbrev id_test : ℤ → Bool
id_test id = integer_fits (negsuc 2147483647) (pos 2147483647) (integer id)

below : (n : ℕ) → not (nat_lt 2147483647 n) ≡ true → nat_le n 2147483647 ≡ true
below n e = grind (arith, nat_tests)

id_passed : (id : ℤ) → id_test id ≡ true → is_identifier id ≡ true
id_passed (pos n) e = below n (and_parts (nat_lt n (2 ^ 63) && true) (not (nat_lt 2147483647 n)) e).1
id_passed (negsuc n) e =
    let p = and_parts (nat_lt n (2 ^ 63) && not (nat_lt 2147483647 n)) true e in below n (and_parts (nat_lt n (2 ^ 63)) (not (nat_lt 2147483647 n)) p.0).1

both : (a b : Bool) → a ≡ true → b ≡ true → (a && b) ≡ true
both true b e f = f
both false b e f = absurd (let wrong : false ≡ true = e in cc)

-- the first test of several is that of an identifier; the second that of another one
first_id : (id : ℤ) (more : Bool) → (id_test id && more) ≡ true → (is_identifier id && true) ≡ true
first_id id more e = both (is_identifier id) true (id_passed id (and_parts (id_test id) more e).0) refl

one_id : (id : ℤ) (more : Bool) → (id_test id && more) ≡ true → is_identifier id ≡ true
one_id id more e = id_passed id (and_parts (id_test id) more e).0

two_ids : (id linked : ℤ) (more : Bool) → (id_test id && (id_test linked && more)) ≡ true → (is_identifier id && is_identifier linked) ≡ true
two_ids id linked more e =
    let p = and_parts (id_test id) (id_test linked && more) e in
    both (is_identifier id) (is_identifier linked) (id_passed id p.0) (id_passed linked (and_parts (id_test linked) more p.1).0)

-- ---- BER

invoke_fits : (id : ℤ) (l : Option ℤ) (c : Code) (os : Option (List ℕ)) → has_form head_rows apdu_row (ber_value (invoke id l c os)) ≡ true → (is_identifier id && is_identifier_or_none l) ≡ true
unfolding has_form
invoke_fits id None (Local n) None e = first_id id _ e
invoke_fits id None (Global arcs) None e = first_id id _ e
invoke_fits id None (Local n) (Some os) e = first_id id _ e
invoke_fits id None (Global arcs) (Some os) e = first_id id _ e
invoke_fits id (Some k) (Local n) None e = two_ids id k _ e
invoke_fits id (Some k) (Global arcs) None e = two_ids id k _ e
invoke_fits id (Some k) (Local n) (Some os) e = two_ids id k _ e
invoke_fits id (Some k) (Global arcs) (Some os) e = two_ids id k _ e

error_fits : (id : ℤ) (c : Code) (os : Option (List ℕ)) → has_form head_rows apdu_row (ber_value (error id c os)) ≡ true → is_identifier id ≡ true
unfolding has_form
error_fits id (Local n) None e = one_id id _ e
error_fits id (Global arcs) None e = one_id id _ e
error_fits id (Local n) (Some os) e = one_id id _ e
error_fits id (Global arcs) (Some os) e = one_id id _ e

none_fits : (id : ℤ) → has_form head_rows apdu_row (ber_value (result id None)) ≡ true → is_identifier id ≡ true
unfolding has_form
none_fits id e = one_id id _ e

result_fits : (id : ℤ) (c : Code) (os : List ℕ) → has_form head_rows apdu_row (ber_value (result id (Some (record { code = c; octets = os })))) ≡ true → is_identifier id ≡ true
unfolding has_form
result_fits id (Local n) os e = one_id id _ e
result_fits id (Global arcs) os e = one_id id _ e

reject_fits : (id : Option ℤ) (k : ProblemKind) (number : ℤ) → has_form head_rows apdu_row (ber_value (reject id (record { kind = k; number = number }))) ≡ true → is_identifier_or_none id ≡ true
unfolding has_form
reject_fits None k number e = refl
reject_fits (Some id) kinds.General number e = one_id id _ e
reject_fits (Some id) kinds.Invoke number e = one_id id _ e
reject_fits (Some id) kinds.Result number e = one_id id _ e
reject_fits (Some id) kinds.Error number e = one_id id _ e

head_fits : (h : Head) → has_form head_rows apdu_row (ber_value h) ≡ true → has_identifiers h ≡ true
head_fits (invoke id l c os) e = invoke_fits id l c os e
head_fits (result id None) e = none_fits id e
head_fits (result id (Some o)) e = result_fits id o.code o.octets e
head_fits (error id c os) e = error_fits id c os e
head_fits (reject id p) e = reject_fits id p.kind p.number e

-- ---- the packed syntax

invoke_packs : (id : ℤ) (l : Option ℤ) (c : Code) (os : Option (List ℕ)) → packs head_rows packed_apdu_row (packed_value (invoke id l c os)) ≡ true → (is_identifier id && is_identifier_or_none l) ≡ true
unfolding packs
invoke_packs id None (Local n) os e = first_id id _ e
invoke_packs id None (Global arcs) os e = first_id id _ e
invoke_packs id (Some k) (Local n) os e = two_ids id k _ e
invoke_packs id (Some k) (Global arcs) os e = two_ids id k _ e

error_packs : (id : ℤ) (c : Code) (os : Option (List ℕ)) → packs head_rows packed_apdu_row (packed_value (error id c os)) ≡ true → is_identifier id ≡ true
unfolding packs
error_packs id (Local n) os e = one_id id _ e
error_packs id (Global arcs) os e = one_id id _ e

none_packs : (id : ℤ) → packs head_rows packed_apdu_row (packed_value (result id None)) ≡ true → is_identifier id ≡ true
unfolding packs
none_packs id e = one_id id _ e

result_packs : (id : ℤ) (c : Code) (os : List ℕ) → packs head_rows packed_apdu_row (packed_value (result id (Some (record { code = c; octets = os })))) ≡ true → is_identifier id ≡ true
unfolding packs
result_packs id (Local n) os e = one_id id _ e
result_packs id (Global arcs) os e = one_id id _ e

reject_packs : (id : Option ℤ) (k : ProblemKind) (number : ℤ) → packs head_rows packed_apdu_row (packed_value (reject id (record { kind = k; number = number }))) ≡ true → is_identifier_or_none id ≡ true
unfolding packs
reject_packs None k number e = refl
reject_packs (Some id) kinds.General number e = one_id id _ e
reject_packs (Some id) kinds.Invoke number e = one_id id _ e
reject_packs (Some id) kinds.Result number e = one_id id _ e
reject_packs (Some id) kinds.Error number e = one_id id _ e

head_packs : (h : Head) → packs head_rows packed_apdu_row (packed_value h) ≡ true → has_identifiers h ≡ true
head_packs (invoke id l c os) e = invoke_packs id l c os e
head_packs (result id None) e = none_packs id e
head_packs (result id (Some o)) e = result_packs id o.code o.octets e
head_packs (error id c os) e = error_packs id c os e
head_packs (reject id p) e = reject_packs id p.kind p.number e

pub heads_have_identifiers : (syntax : Syntax) (h : Head) (text : List ℕ) → AreOctets text → SpellsHead syntax h text → has_identifiers h ≡ true
heads_have_identifiers Ber h text are p = head_fits h (spelled_fits head_rows apdu_row false 262144 (ber_value h) text are p)
heads_have_identifiers Der h text are p = head_fits h (spelled_fits head_rows apdu_row true 262144 (ber_value h) text are p)
heads_have_identifiers Packed h text are p = head_packs h p.packs.fit
