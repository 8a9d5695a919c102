-- What may be written of an APDU is the value of a transfer.
use Rattle.std.proofs.Common.{◌≡◌, refl, true, false, ◌∙◌, sym, ap, subst, arith, ℕ, ◌+◌, ◌≤◌, pos, List, [], ◌++◌, length}
use Rattle.std.specs.Prelude.{ℤ, Bool, not, ◌&&◌, Option, Some, None, option_map, int_lt, nat_le}
use Rattle.std.specs.List.{list_all}
use Rattle.std.proofs.lemmas.Bool.{le-leb, lt-ltb}
use Rattle.std.proofs.lemmas.Int.{ints}
use Rattle.std.proofs.lemmas.List.{length-append}
use Rattle.osi_base.specs.declared.syntax.Syntax.TheVariants.{Ber, Der, Packed}
use Rattle.asn1_types.specs.declared.row.Class.TheVariants.{Universal, Context}
use Rattle.asn1_types.specs.declared.row.TypeId.{TypeId}
use Rattle.asn1_types.specs.declared.value.Val.{Val}
use Rattle.asn1_types.specs.Fits.{has_form, is_number, is_octet}
use Rattle.asn1_types.specs.Whole.{is_whole}
use Rattle.asn1_types.specs.Writing.{written, writes, integer_octets, definite}
use Rattle.ber_spelling.proofs.WholeSpelled.{der_is_whole}
use Rattle.packed_laws.proofs.Octets.{append-are, packed-octets}
use Rattle.fixed_tables.specs.Pdvs.{pdv_value}
use Rattle.rtse_apdus.specs.Transfer.{written_transfer}
use Rattle.rtse_apdus.specs.TransferRows.{transfer_row, transfer_rows}
use Rattle.stub_tables.specs.declared.tables.Tables.{Tables}
use Rattle.stub_tables.specs.declared.operation.Use.{Use}
use Rattle.stub_tables.specs.declared.apdu.Apdu.{Apdu}
use Rattle.stub_tables.specs.declared.apdu.Apdu.TheVariants as apdus
use Rattle.stub_tables.specs.declared.apdu.Returned.{Returned}
use Rattle.stub_tables.specs.Readable.{IsReadable}
use Rattle.stub_tables.specs.Apdus.{argument_of, result_of, parameter_of, operation_coded, error_coded}
use Rattle.apdu_spelling.specs.Heads as heads
use Rattle.apdu_spelling.specs.Rows.{head_rows, apdu_row, packed_apdu_row}
use Rattle.apdu_spelling.specs.Values.{ber_value, packed_value}
use Rattle.apdu_spelling.specs.Writing.{written_apdu, written_head, written_typed, written_carried, head_of, has_values, is_typed, may_carry, IsWritable}
use Rattle.apdu_spelling.specs.Spellings.{TypedAs, CarriedAs, ReturnedAs, Says}
use Rattle.apdu_spelling.proofs.HeadsSound.{heads_sound}
use Rattle.apdu_spelling.proofs.Written.{written_spelled}
use Rattle.transfer_spelling.specs.Laws.{pdv_with, ValuesAreTransfers}
use Rattle.transfer_spelling.proofs.Lengths.{integer-length, definite-length}

-- ---- what is written in BER is what is written in DER

typed-same : (tables : Tables) (of : Option TypeId) (v : Val) → written_typed Ber tables.types of v ≡ written_typed Der tables.types of v
typed-same tables None v = refl
typed-same tables (Some of) v = refl

carried-same : (tables : Tables) (u : Option Use) (v : Option Val) → written_carried Ber tables.types u v ≡ written_carried Der tables.types u v
carried-same tables None v = refl
carried-same tables (Some u) None = refl
carried-same tables (Some u) (Some v) = typed-same tables u.inner v

heads-same : (tables : Tables) (apdu : Apdu) → head_of tables Ber apdu ≡ head_of tables Der apdu
heads-same tables (apdus.Invoke id linked code v) = ap (λ (x : Option (List ℕ)). heads.invoke id linked code x) (carried-same tables (option_map argument_of (operation_coded tables code)) v)
heads-same tables (apdus.Result id None) = refl
heads-same tables (apdus.Result id (Some r)) =
    ap (λ (x : Option (List ℕ)). heads.result id (Some (record { code = r.code; octets = heads.or_none x }))) (carried-same tables (option_map result_of (operation_coded tables r.code)) (Some r.value))
heads-same tables (apdus.Error id code v) = ap (λ (x : Option (List ℕ)). heads.error id code x) (carried-same tables (option_map parameter_of (error_coded tables code)) v)
heads-same tables (apdus.Reject id problem) = refl

texts-same : (tables : Tables) (apdu : Apdu) → written_apdu tables Ber apdu ≡ written_apdu tables Der apdu
unfolding written_apdu
texts-same tables apdu = ap (λ (h : heads.Head). written_head Ber h) (heads-same tables apdu)

is-typed_same : (tables : Tables) (of : Option TypeId) (v : Val) → is_typed Ber tables.types of v ≡ is_typed Der tables.types of v
is-typed_same tables None v = refl
is-typed_same tables (Some of) v = refl

may-same : (tables : Tables) (u : Option Use) (v : Option Val) → may_carry Ber tables.types u v ≡ may_carry Der tables.types u v
may-same tables None v = refl
may-same tables (Some u) None = refl
may-same tables (Some u) (Some v) = is-typed_same tables u.inner v

values-same : (tables : Tables) (apdu : Apdu) → has_values tables Ber apdu ≡ has_values tables Der apdu
values-same tables (apdus.Invoke id linked code v) = may-same tables (option_map argument_of (operation_coded tables code)) v
values-same tables (apdus.Result id None) = refl
values-same tables (apdus.Result id (Some r)) = may-same tables (option_map result_of (operation_coded tables r.code)) (Some r.value)
values-same tables (apdus.Error id code v) = may-same tables (option_map parameter_of (error_coded tables code)) v
values-same tables (apdus.Reject id problem) = refl

der-whole : (tables : Tables) (apdu : Apdu) → IsReadable tables → IsWritable tables Der apdu → is_whole (written_apdu tables Der apdu) ≡ true
der-whole tables apdu readable w =
    let s = written_spelled tables readable Der apdu w in
    der_is_whole head_rows heads_sound apdu_row 262144 (ber_value s.head) (written_apdu tables Der apdu) s.is_head

ber-whole : (tables : Tables) (apdu : Apdu) → IsReadable tables → IsWritable tables Ber apdu → is_whole (written_apdu tables Ber apdu) ≡ true
ber-whole tables apdu readable w =
    let v : IsWritable tables Der apdu = record { numbers = w.numbers; values = sym (values-same tables apdu) ∙ w.values; short = subst (λ (x : List ℕ). length x ≤ 262144) (texts-same tables apdu) w.short } in
    subst (λ (x : List ℕ). is_whole x ≡ true) (sym (texts-same tables apdu)) (der-whole tables apdu readable v)

-- ---- the value of a transfer has the form of its row

both : (a b : Bool) → a ≡ true → b ≡ true → (a && b) ≡ true
both true b e f = f
both false b e f = cc

id-fits : (id : ℕ) → 1 ≤ id → id ≤ 32767 → (is_number (pos id) && not (int_lt (pos id) (pos 1)) && not (int_lt (pos 32767) (pos id))) ≡ true
id-fits id low high =
    both (is_number (pos id) && not (int_lt (pos id) (pos 1))) (not (int_lt (pos 32767) (pos id)))
    (both (is_number (pos id)) (not (int_lt (pos id) (pos 1))) (lt-ltb id 9223372036854775808 (omega arith)) (above id low)) (below id high)
  where
    above : (id : ℕ) → 1 ≤ id → not (int_lt (pos id) (pos 1)) ≡ true
    above id h = grind (arith, ints)

    below : (id : ℕ) → id ≤ 32767 → not (int_lt (pos 32767) (pos id)) ≡ true
    below id h = grind (arith, ints)

whole-fits : (id : ℕ) (os : List ℕ) → 1 ≤ id → id ≤ 32767 → is_whole os ≡ true → has_form transfer_rows transfer_row (pdv_value (pdv_with id Ber os)) ≡ true
unfolding has_form
whole-fits id os low high h = both _ (is_whole os && true) (id-fits id low high) (both (is_whole os) true h refl)

octets-fit_so : (id : ℕ) (os : List ℕ) → 1 ≤ id → id ≤ 32767 → list_all is_octet os ≡ true → length os ≤ 4294967295 → has_form transfer_rows transfer_row (pdv_value (pdv_with id Packed os)) ≡ true
unfolding has_form
octets-fit_so id os low high h few = both _ (list_all is_octet os && nat_le (length os) 4294967295 && true) (id-fits id low high) (both (list_all is_octet os && nat_le (length os) 4294967295) true (both (list_all is_octet os) (nat_le (length os) 4294967295) h (le-leb (length os) 4294967295 few)) refl)

-- ---- its octets

transfer-short : (id : ℕ) (x os : List ℕ) → id ≤ 32767 → length os ≤ 262144 → length x ≤ 5 + length os →
    length (definite true (record { class = Universal; number = 16 }) (definite false (record { class = Universal; number = 2 }) (integer_octets (pos id)) ++ (x ++ []))) ≤ 262400
transfer-short id x os high few h =
    let n : length (integer_octets (pos id)) ≤ 2 = integer-length 1 id (omega arith) in
    let number : List ℕ = definite false (record { class = Universal; number = 2 }) (integer_octets (pos id)) in
    let a = definite-length false (record { class = Universal; number = 2 }) (integer_octets (pos id)) (omega arith) (omega arith) in
    let b = length-append number (x ++ []) in
    let c = length-append x [] in
    let d = definite-length true (record { class = Universal; number = 16 }) (number ++ (x ++ [])) (omega arith) (omega arith) in
    omega arith

ber-length : (id : ℕ) (os : List ℕ) → id ≤ 32767 → length os ≤ 262144 → length (written_transfer (pdv_with id Ber os)) ≤ 262400
unfolding written writes
ber-length id os high few =
    transfer-short id (definite true (record { class = Context; number = 0 }) os) os high few (definite-length true (record { class = Context; number = 0 }) os (omega arith) (omega arith))

packed-length : (id : ℕ) (os : List ℕ) → id ≤ 32767 → length os ≤ 262144 → length (written_transfer (pdv_with id Packed os)) ≤ 262400
unfolding written writes
packed-length id os high few =
    transfer-short id (definite false (record { class = Context; number = 1 }) os) os high few (definite-length false (record { class = Context; number = 1 }) os (omega arith) (omega arith))

-- ---- APDUs in the packed syntax are octets

abbrev Are : List ℕ → Type 0
Are xs = list_all is_octet xs ≡ true

module _ (tables : Tables) (readable : IsReadable tables) where
  carried-are : (limit : ℕ) (u : Option Use) (v : Option Val) (os : Option (List ℕ)) → CarriedAs Packed tables.types limit u v os → Are (heads.or_none os)
  carried-are limit None v os h = absurd h
  carried-are limit (Some u) None None h = refl
  carried-are limit (Some u) None (Some os) h = absurd h
  carried-are limit (Some u) (Some v) None h = absurd h
  carried-are limit (Some u) (Some v) (Some os) h = go u.inner h
    where
      go : (i : Option TypeId) → TypedAs Packed tables.types limit i v os → Are os
      go None h = absurd h
      go (Some of) h = subst Are (sym h.are) (packed-octets tables.types of.0 v readable.types h.fit)

  returned-are : (limit : ℕ) (r : Option Returned) (o : Option heads.ReturnedOctets) (id : ℤ) → ReturnedAs tables Packed limit r o → Are (heads.carried (heads.result id o))
  returned-are limit None None id h = refl
  returned-are limit None (Some o) id h = absurd h
  returned-are limit (Some r) None id h = absurd h
  returned-are limit (Some r) (Some o) id h = carried-are limit (option_map result_of (operation_coded tables r.code)) (Some r.value) (Some o.octets) h.1

  says-are : (apdu : Apdu) (h : heads.Head) → Says tables Packed apdu h → Are (heads.carried h)
  says-are (apdus.Invoke id linked code argument) h s = subst (λ x. Are (heads.carried x)) (sym s.head_is) (carried-are _ _ argument s.octets s.typed)
  says-are (apdus.Result id returned) h s = subst (λ x. Are (heads.carried x)) (sym s.head_is) (returned-are _ returned s.outcome id s.typed)
  says-are (apdus.Error id code parameter) h s = subst (λ x. Are (heads.carried x)) (sym s.head_is) (carried-are _ _ parameter s.octets s.typed)
  says-are (apdus.Reject id problem) h s = subst (λ x. Are (heads.carried x)) (sym s) refl

  pub packed-are : (apdu : Apdu) → IsWritable tables Packed apdu → Are (written_apdu tables Packed apdu)
  packed-are apdu w =
      let s = written_spelled tables readable Packed apdu w in
      let p = s.is_head in
      let front : Are p.front = subst Are (sym p.packs.are) (packed-octets head_rows packed_apdu_row (packed_value s.head) heads_sound p.packs.fit) in
      subst Are (sym p.are) (append-are p.front (heads.carried s.head) front (says-are apdu s.head s.says))

pub values-transfers : ValuesAreTransfers
values-transfers tables id Ber apdu m low high w =
    record { identifier = high; fitting = whole-fits id (written_apdu tables Ber apdu) low high (ber-whole tables apdu m.readable w); within = ber-length id (written_apdu tables Ber apdu) high w.short }
values-transfers tables id Der apdu m low high w =
    record { identifier = high; fitting = whole-fits id (written_apdu tables Der apdu) low high (der-whole tables apdu m.readable w); within = ber-length id (written_apdu tables Der apdu) high w.short }
values-transfers tables id Packed apdu m low high w =
    let short : length (written_apdu tables Packed apdu) ≤ 262144 = w.short in
    record {
      identifier = high;
      fitting = octets-fit_so id (written_apdu tables Packed apdu) low high (packed-are tables m.readable apdu w) (omega arith);
      within = packed-length id (written_apdu tables Packed apdu) high w.short;
    }
