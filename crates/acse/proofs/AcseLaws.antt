-- APDUs of association control and their octets stand for each other.
use Rattle.std.proofs.Common.{◌≡◌, ℕ, ◌+◌, ◌^◌, ◌<◌, true, ◌&&◌, List, [], ◌∷◌, Some, None, Result, Ok, Err, refl, ap, ◌∙◌, arith}
use Rattle.std.specs.Prelude.{pos, nat_lt, nat_le, map}
use Rattle.std.specs.List.{list_all}
use Rattle.std.proofs.lemmas.Bool.{and_parts, ltb-true, leb-true, lt-ltb}
use Rattle.osi_base.specs.declared.bit_string.BitString as strings
use Rattle.osi_base.specs.declared.acse_word.External as externals
use Rattle.osi_base.specs.declared.acse_word.Diagnostic as diagnostics
use Rattle.osi_base.specs.declared.acse_word.Diagnostic.TheVariants as diagnostic
use Rattle.osi_base.specs.declared.acse_word.Acse as apdus
use Rattle.osi_base.specs.declared.acse_word.Acse.TheVariants as apdu
use Rattle.asn1_types.specs.Rows.{along}
use Rattle.asn1_types.specs.Fits.{has_form, form_by, nothing_fits, values_fit, is_number, integer_fits, bits_fit, object_id_fits}
use Rattle.asn1_types.specs.Value.{Value, integer, bits, object_id}
use Rattle.asn1_types.specs.ValueView.{values_of}
use Rattle.asn1_types.specs.Whole.{is_whole}
use Rattle.asn1_types.specs.Writing.{written}
use Rattle.fixed_tables.specs.declared.pdu.PduFault as units
use Rattle.fixed_tables.specs.Values.{natural_in, octet_of, values_list}
use Rattle.fixed_tables.specs.declared.pdu.PduFault.TheVariants as unit
use Rattle.fixed_tables.proofs.Numbers.{natural_fits, number_fits, range_fits}
use Rattle.passed_fields.specs.AllOctets.{all_at}
use Rattle.passed_fields.proofs.Fronts.{all_found, all_only, all_first}
use Rattle.acse.specs.Rows.{acse_row, acse_rows}
use Rattle.acse.specs.Words.{external_in, external_value, apdu_in, value_of}
use Rattle.acse.specs.Plain.{of_value}
use Rattle.acse.specs.Fields.{any_apdu_at, AnyApdu}
use Rattle.acse.specs.Written.{is_id, can_carry, can_write}
use Rattle.acse.specs.Laws.{AcseIsSpelled, SpelledAcseIsRead, AcseFaultIsFirst}
use Rattle.acse.proofs.Shapes.{Whatever, any_apdu_found, any_apdu_only, any_apdu_grows, any_apdu_inside}

-- what is read of a value
said_of : (r : Result Value units.PduFault) (a : apdus.Acse) → of_value r ≡ Ok a → (v : Value) × (r ≡ Ok v) × (apdu_in v ≡ a)
said_of (Ok v) a e = (v, refl, (let same : apdu_in v ≡ a = cc in same))
said_of (Err f) a e = absurd cc

faulty : (r : Result Value units.PduFault) (f : units.PduFault) → of_value r ≡ Err f → r ≡ Err f
faulty (Ok v) f e = absurd cc
faulty (Err g) f e = let same : g ≡ f = cc in ap (λ (x : units.PduFault). Err x) same

pub acse_is_spelled : AcseIsSpelled
acse_is_spelled a octets are e =
    let r = said_of (all_at (any_apdu_at acse_rows) 262144 octets) a e in
    let p = all_found (any_apdu_at acse_rows) AnyApdu any_apdu_found 262144 octets r.0 are r.1 in
    record { value = r.0; spelled = p.0; within = p.1; says = r.2 }

pub spelled_acse_is_read : SpelledAcseIsRead
spelled_acse_is_read a octets p =
    ap of_value (all_only (any_apdu_at acse_rows) Whatever AnyApdu any_apdu_only 262144 octets p.value p.spelled p.within) ∙ ap (λ (x : apdus.Acse). Ok x) p.says

pub acse_fault_is_first : AcseFaultIsFirst
acse_fault_is_first octets place kind e =
    let first = all_first (any_apdu_at acse_rows) any_apdu_grows any_apdu_inside 262144 octets place kind (faulty (all_at (any_apdu_at acse_rows) 262144 octets) (unit.At place kind) e) in
    (first.0, λ k lt. ap of_value (first.1 k lt))

-- ---- what may be written fits

id_fits : (n : ℕ) → is_id n ≡ true → integer_fits (pos 1) (pos 32767) (integer (pos n)) ≡ true
id_fits n h =
    let p = and_parts (nat_lt 0 n) (nat_le n 32767) h in
    let low = ltb-true 0 n p.0 in
    let high = leb-true n 32767 p.1 in
    range_fits 1 32767 n (omega arith) (omega arith) (omega arith)

below_fits : (high n : ℕ) → high < 256 → nat_lt n (high + 1) ≡ true → integer_fits (pos 0) (pos high) (integer (pos n)) ≡ true
below_fits high n small h = let lt = ltb-true n (high + 1) h in natural_fits high n (omega arith) (omega arith)

-- items of user information, as far down the table as they stand in an APDU
users_fit : (es : List externals.External) → list_all can_carry es ≡ true → values_fit (along nothing_fits (form_by (written acse_rows)) acse_rows 26 9) (values_of (map external_value es)) ≡ true
users_fit [] h = refl
users_fit (e ∷ es) h =
    let p = and_parts (can_carry e) (list_all can_carry es) h in
    let q = and_parts (is_id e.id) (is_whole e.value) p.0 in
    rw (id_fits e.id q.0, q.1, users_fit es p.1) refl

pub writable_fits : (a : apdus.Acse) → can_write a ≡ true → has_form acse_rows acse_row (value_of a) ≡ true
unfolding has_form
writable_fits (apdu.AssociateRequest None context []) h =
    let p = and_parts (true && object_id_fits (object_id context)) (list_all can_carry []) h in
    let q = and_parts true (object_id_fits (object_id context)) p.0 in
    rw (q.1) refl
writable_fits (apdu.AssociateRequest None context (e ∷ es)) h =
    let p = and_parts (true && object_id_fits (object_id context)) (list_all can_carry (e ∷ es)) h in
    let q = and_parts true (object_id_fits (object_id context)) p.0 in
    rw (q.1, users_fit (e ∷ es) p.1) refl
writable_fits (apdu.AssociateRequest (Some string) context []) h =
    let p = and_parts (bits_fit (bits string.octets string.unused) && object_id_fits (object_id context)) (list_all can_carry []) h in
    let q = and_parts (bits_fit (bits string.octets string.unused)) (object_id_fits (object_id context)) p.0 in
    rw (q.0, q.1) refl
writable_fits (apdu.AssociateRequest (Some string) context (e ∷ es)) h =
    let p = and_parts (bits_fit (bits string.octets string.unused) && object_id_fits (object_id context)) (list_all can_carry (e ∷ es)) h in
    let q = and_parts (bits_fit (bits string.octets string.unused)) (object_id_fits (object_id context)) p.0 in
    rw (q.0, q.1, users_fit (e ∷ es) p.1) refl
writable_fits (apdu.AssociateResponse context result (diagnostic.User number) []) h =
    let p = and_parts (object_id_fits (object_id context) && nat_lt result 3 && is_number number) (list_all can_carry []) h in
    let q = and_parts (object_id_fits (object_id context) && nat_lt result 3) (is_number number) p.0 in
    let r = and_parts (object_id_fits (object_id context)) (nat_lt result 3) q.0 in
    rw (r.0, below_fits 2 result (omega arith) r.1, number_fits number q.1) refl
writable_fits (apdu.AssociateResponse context result (diagnostic.User number) (e ∷ es)) h =
    let p = and_parts (object_id_fits (object_id context) && nat_lt result 3 && is_number number) (list_all can_carry (e ∷ es)) h in
    let q = and_parts (object_id_fits (object_id context) && nat_lt result 3) (is_number number) p.0 in
    let r = and_parts (object_id_fits (object_id context)) (nat_lt result 3) q.0 in
    rw (r.0, below_fits 2 result (omega arith) r.1, number_fits number q.1, users_fit (e ∷ es) p.1) refl
writable_fits (apdu.AssociateResponse context result (diagnostic.Provider number) []) h =
    let p = and_parts (object_id_fits (object_id context) && nat_lt result 3 && is_number number) (list_all can_carry []) h in
    let q = and_parts (object_id_fits (object_id context) && nat_lt result 3) (is_number number) p.0 in
    let r = and_parts (object_id_fits (object_id context)) (nat_lt result 3) q.0 in
    rw (r.0, below_fits 2 result (omega arith) r.1, number_fits number q.1) refl
writable_fits (apdu.AssociateResponse context result (diagnostic.Provider number) (e ∷ es)) h =
    let p = and_parts (object_id_fits (object_id context) && nat_lt result 3 && is_number number) (list_all can_carry (e ∷ es)) h in
    let q = and_parts (object_id_fits (object_id context) && nat_lt result 3) (is_number number) p.0 in
    let r = and_parts (object_id_fits (object_id context)) (nat_lt result 3) q.0 in
    rw (r.0, below_fits 2 result (omega arith) r.1, number_fits number q.1, users_fit (e ∷ es) p.1) refl
writable_fits (apdu.ReleaseRequest reason) h = rw (number_fits reason h) refl
writable_fits (apdu.ReleaseResponse reason) h = rw (number_fits reason h) refl
writable_fits (apdu.Abort source []) h =
    let p = and_parts (nat_lt source 2) (list_all can_carry []) h in
    rw (below_fits 1 source (omega arith) p.0) refl
writable_fits (apdu.Abort source (e ∷ es)) h =
    let p = and_parts (nat_lt source 2) (list_all can_carry (e ∷ es)) h in
    rw (below_fits 1 source (omega arith) p.0, users_fit (e ∷ es) p.1) refl

-- ---- what is written says the APDU

id_is : (n : ℕ) → is_id n ≡ true → natural_in (pos n) ≡ n
id_is n h =
    let p = and_parts (nat_lt 0 n) (nat_le n 32767) h in
    let lt = leb-true n 32767 p.1 in
    let small : n < 2 ^ 32 = omega arith in
    rw (lt-ltb n (2 ^ 32) small) refl

octet_is : (high n : ℕ) → high < 256 → nat_lt n high ≡ true → octet_of (pos n) ≡ n
octet_is high n small h =
    let lt = ltb-true n high h in
    let here : n < 256 = omega arith in
    rw (lt-ltb n 256 here) refl

external_says : (e : externals.External) → can_carry e ≡ true → external_in (external_value e) ≡ e
external_says e h =
    let q = and_parts (is_id e.id) (is_whole e.value) h in
    ap (λ (n : ℕ). let x : externals.External = record { id = n; value = e.value } in x) (id_is e.id q.0)

users_say : (es : List externals.External) → list_all can_carry es ≡ true → map external_in (values_list (values_of (map external_value es))) ≡ es
users_say [] h = refl
users_say (e ∷ es) h =
    let p = and_parts (can_carry e) (list_all can_carry es) h in
    ap (λ (x : externals.External). x ∷ map external_in (values_list (values_of (map external_value es)))) (external_says e p.0) ∙ ap (λ (x : List externals.External). e ∷ x) (users_say es p.1)

pub writable_says : (a : apdus.Acse) → can_write a ≡ true → apdu_in (value_of a) ≡ a
writable_says (apdu.AssociateRequest None context []) h = refl
writable_says (apdu.AssociateRequest None context (e ∷ es)) h =
    let p = and_parts (true && object_id_fits (object_id context)) (list_all can_carry (e ∷ es)) h in
    ap (λ (x : List externals.External). apdu.AssociateRequest None context x) (users_say (e ∷ es) p.1)
writable_says (apdu.AssociateRequest (Some string) context []) h = refl
writable_says (apdu.AssociateRequest (Some string) context (e ∷ es)) h =
    let p = and_parts (bits_fit (bits string.octets string.unused) && object_id_fits (object_id context)) (list_all can_carry (e ∷ es)) h in
    ap (λ (x : List externals.External). apdu.AssociateRequest (Some string) context x) (users_say (e ∷ es) p.1)
writable_says (apdu.AssociateResponse context result (diagnostic.User number) []) h =
    let p = and_parts (object_id_fits (object_id context) && nat_lt result 3 && is_number number) (list_all can_carry []) h in
    let q = and_parts (object_id_fits (object_id context) && nat_lt result 3) (is_number number) p.0 in
    let r = and_parts (object_id_fits (object_id context)) (nat_lt result 3) q.0 in
    ap (λ (n : ℕ). apdu.AssociateResponse context n (diagnostic.User number) []) (octet_is 3 result (omega arith) r.1)
writable_says (apdu.AssociateResponse context result (diagnostic.User number) (e ∷ es)) h =
    let p = and_parts (object_id_fits (object_id context) && nat_lt result 3 && is_number number) (list_all can_carry (e ∷ es)) h in
    let q = and_parts (object_id_fits (object_id context) && nat_lt result 3) (is_number number) p.0 in
    let r = and_parts (object_id_fits (object_id context)) (nat_lt result 3) q.0 in
    ap (λ (n : ℕ). apdu.AssociateResponse context n (diagnostic.User number) (map external_in (values_list (values_of (map external_value (e ∷ es)))))) (octet_is 3 result (omega arith) r.1)
    ∙ ap (λ (x : List externals.External). apdu.AssociateResponse context result (diagnostic.User number) x) (users_say (e ∷ es) p.1)
writable_says (apdu.AssociateResponse context result (diagnostic.Provider number) []) h =
    let p = and_parts (object_id_fits (object_id context) && nat_lt result 3 && is_number number) (list_all can_carry []) h in
    let q = and_parts (object_id_fits (object_id context) && nat_lt result 3) (is_number number) p.0 in
    let r = and_parts (object_id_fits (object_id context)) (nat_lt result 3) q.0 in
    ap (λ (n : ℕ). apdu.AssociateResponse context n (diagnostic.Provider number) []) (octet_is 3 result (omega arith) r.1)
writable_says (apdu.AssociateResponse context result (diagnostic.Provider number) (e ∷ es)) h =
    let p = and_parts (object_id_fits (object_id context) && nat_lt result 3 && is_number number) (list_all can_carry (e ∷ es)) h in
    let q = and_parts (object_id_fits (object_id context) && nat_lt result 3) (is_number number) p.0 in
    let r = and_parts (object_id_fits (object_id context)) (nat_lt result 3) q.0 in
    ap (λ (n : ℕ). apdu.AssociateResponse context n (diagnostic.Provider number) (map external_in (values_list (values_of (map external_value (e ∷ es)))))) (octet_is 3 result (omega arith) r.1)
    ∙ ap (λ (x : List externals.External). apdu.AssociateResponse context result (diagnostic.Provider number) x) (users_say (e ∷ es) p.1)
writable_says (apdu.ReleaseRequest reason) h = refl
writable_says (apdu.ReleaseResponse reason) h = refl
writable_says (apdu.Abort source []) h =
    let p = and_parts (nat_lt source 2) (list_all can_carry []) h in
    ap (λ (n : ℕ). apdu.Abort n []) (octet_is 2 source (omega arith) p.0)
writable_says (apdu.Abort source (e ∷ es)) h =
    let p = and_parts (nat_lt source 2) (list_all can_carry (e ∷ es)) h in
    ap (λ (n : ℕ). apdu.Abort n (map external_in (values_list (values_of (map external_value (e ∷ es)))))) (octet_is 2 source (omega arith) p.0)
    ∙ ap (λ (x : List externals.External). apdu.Abort source x) (users_say (e ∷ es) p.1)
