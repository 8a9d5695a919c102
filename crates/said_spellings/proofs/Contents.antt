-- An APDU of the module as a value of the presentation protocol: in the basic encoding a whole value, and octets in each syntax.
use Rattle.std.proofs.Common.{◌≡◌, true, arith, ℕ, ◌≤◌, ◌<◌, ◌^◌, List, length}
use Rattle.std.specs.Prelude.{ℤ, ◌&&◌, Option, Some, None, option_map, nat_le}
use Rattle.std.specs.List.{list_all}
use Rattle.std.proofs.lemmas.Bool.{and_parts}
use Rattle.osi_base.specs.declared.syntax.Syntax.{Syntax}
use Rattle.osi_base.specs.declared.syntax.Syntax.TheVariants.{Ber, Der, Packed}
use Rattle.osi_base.specs.declared.layer_words.Problem.{Problem}
use Rattle.osi_base.specs.Octets.{AreOctets}
use Rattle.osi_base.proofs.OctetLaws.{no_octets}
use Rattle.asn1_types.specs.declared.row.TypeId.{TypeId}
use Rattle.asn1_types.specs.declared.value.Val.{Val}
use Rattle.asn1_types.specs.Fits.{is_octet, has_form}
use Rattle.asn1_types.proofs.FitLaws.{fits_has_form}
use Rattle.asn1_types.specs.Whole.{is_whole}
use Rattle.asn1_types.specs.Writing.{written}
use Rattle.asn1_types.proofs.OctetTests.{octets_by_test}
use Rattle.fixed_tables.specs.Pdvs.{pdv_value}
use Rattle.rtse_apdus.specs.TransferRows.{transfer_row, transfer_rows}
use Rattle.stub_tables.specs.declared.tables.Tables.{Tables}
use Rattle.stub_tables.specs.declared.operation.Code.{Code}
use Rattle.stub_tables.specs.declared.operation.Code.TheVariants.{Local, Global}
use Rattle.stub_tables.specs.declared.operation.Use.{Use}
use Rattle.stub_tables.specs.declared.apdu.Apdu.{Apdu}
use Rattle.stub_tables.specs.declared.apdu.Apdu.TheVariants as apdus
use Rattle.stub_tables.specs.Apdus.{argument_of, result_of, parameter_of, operation_coded, error_coded}
use Rattle.apdu_spelling.specs.Heads as heads
use Rattle.apdu_spelling.specs.Rows.{head_rows, apdu_row}
use Rattle.apdu_spelling.specs.Values.{code_value, any_part, rejected_value, ber_value}
use Rattle.apdu_spelling.specs.Writing.{written_apdu, written_typed, written_carried, head_of, is_typed, may_carry, IsWritable}
use Rattle.der_octets.specs.Laws.{LeavesAre, LeavesInParts}
use Rattle.der_octets.proofs.Octets.{der-octets}
use Rattle.der_octets.proofs.Fitting.{fitting-leaves}
use Rattle.association_worlds.specs.association_wire.Values.{in_form}
use Rattle.transfer_spelling.specs.Laws.{IsModule, pdv_with}
use Rattle.transfer_spelling.proofs.Transfers.{values-transfers}
use Rattle.said_words.specs.Fields.{IsContext}
use Rattle.said_spellings.proofs.Ppdus.{IsContent, content_length}

-- ---- heads

code-leaves : (c : Code) → LeavesAre (code_value c)
code-leaves (Local n) = tt
code-leaves (Global arcs) = tt

invoke-leaves : (id : ℤ) (linked : Option ℤ) (code : Code) (x : Option (List ℕ)) → LeavesInParts (any_part x) → LeavesAre (ber_value (heads.invoke id linked code x))
invoke-leaves id None code x h = (tt, (code-leaves code, h))
invoke-leaves id (Some l) code x h = (tt, (tt, (code-leaves code, h)))

error-leaves : (id : ℤ) (code : Code) (x : Option (List ℕ)) → LeavesInParts (any_part x) → LeavesAre (ber_value (heads.error id code x))
error-leaves id code x h = (tt, (code-leaves code, h))

outcome-leaves : (id : ℤ) (code : Code) (x : Option (List ℕ)) → (length (heads.or_none x) < 2 ^ 24 → AreOctets (heads.or_none x)) → LeavesAre (ber_value (heads.result id (Some (record { code = code; octets = heads.or_none x }))))
outcome-leaves id code x h = (tt, ((code-leaves code, (h, tt)), tt))

rejected-leaves : (id : Option ℤ) → LeavesAre (rejected_value id)
rejected-leaves None = tt
rejected-leaves (Some id) = tt

reject-leaves : (id : Option ℤ) (problem : Problem) → LeavesAre (ber_value (heads.reject id problem))
reject-leaves id problem = (rejected-leaves id, (tt, tt))

module _ (tables : Tables) (m : IsModule tables) where
  -- what is carried is written in DER
  ber-typed : (of : Option TypeId) (v : Val) → is_typed Ber tables.types of v ≡ true → LeavesInParts (any_part (written_typed Ber tables.types of v))
  ber-typed None v h = absurd cc
  ber-typed (Some of) v h = (der-octets tables.types of.0 v (fitting-leaves tables.types of.0 v m.typed.each (fits_has_form tables.types of.0 v h)), tt)

  der-typed : (of : Option TypeId) (v : Val) → is_typed Der tables.types of v ≡ true → LeavesInParts (any_part (written_typed Der tables.types of v))
  der-typed None v h = absurd cc
  der-typed (Some of) v h = (der-octets tables.types of.0 v (fitting-leaves tables.types of.0 v m.typed.each (fits_has_form tables.types of.0 v h)), tt)

  ber-carried : (u : Option Use) (v : Option Val) → may_carry Ber tables.types u v ≡ true → LeavesInParts (any_part (written_carried Ber tables.types u v))
  ber-carried None v h = absurd cc
  ber-carried (Some u) None h = tt
  ber-carried (Some u) (Some v) h = ber-typed u.inner v h

  der-carried : (u : Option Use) (v : Option Val) → may_carry Der tables.types u v ≡ true → LeavesInParts (any_part (written_carried Der tables.types u v))
  der-carried None v h = absurd cc
  der-carried (Some u) None h = tt
  der-carried (Some u) (Some v) h = der-typed u.inner v h

  some-any : (x : Option (List ℕ)) → LeavesInParts (any_part x) → length (heads.or_none x) < 2 ^ 24 → AreOctets (heads.or_none x)
  some-any None h few = no_octets
  some-any (Some os) h few = h.0 few

  ber-head : (apdu : Apdu) → IsWritable tables Ber apdu → LeavesAre (ber_value (head_of tables Ber apdu))
  ber-head (apdus.Invoke id linked code v) w = invoke-leaves id linked code _ (ber-carried (option_map argument_of (operation_coded tables code)) v w.values)
  ber-head (apdus.Result id None) w = (tt, tt)
  ber-head (apdus.Result id (Some r)) w =
      outcome-leaves id r.code (written_carried Ber tables.types (option_map result_of (operation_coded tables r.code)) (Some r.value))
      (some-any (written_carried Ber tables.types (option_map result_of (operation_coded tables r.code)) (Some r.value)) (ber-carried (option_map result_of (operation_coded tables r.code)) (Some r.value) w.values))
  ber-head (apdus.Error id code v) w = error-leaves id code _ (ber-carried (option_map parameter_of (error_coded tables code)) v w.values)
  ber-head (apdus.Reject id problem) w = reject-leaves id problem

  der-head : (apdu : Apdu) → IsWritable tables Der apdu → LeavesAre (ber_value (head_of tables Der apdu))
  der-head (apdus.Invoke id linked code v) w = invoke-leaves id linked code _ (der-carried (option_map argument_of (operation_coded tables code)) v w.values)
  der-head (apdus.Result id None) w = (tt, tt)
  der-head (apdus.Result id (Some r)) w =
      outcome-leaves id r.code (written_carried Der tables.types (option_map result_of (operation_coded tables r.code)) (Some r.value))
      (some-any (written_carried Der tables.types (option_map result_of (operation_coded tables r.code)) (Some r.value)) (der-carried (option_map result_of (operation_coded tables r.code)) (Some r.value) w.values))
  der-head (apdus.Error id code v) w = error-leaves id code _ (der-carried (option_map parameter_of (error_coded tables code)) v w.values)
  der-head (apdus.Reject id problem) w = reject-leaves id problem

  ber-octets : (apdu : Apdu) → IsWritable tables Ber apdu → AreOctets (written_apdu tables Ber apdu)
  unfolding written_apdu
  ber-octets apdu w = der-octets head_rows apdu_row (ber_value (head_of tables Ber apdu)) (ber-head apdu w) (let short : length (written head_rows apdu_row (ber_value (head_of tables Ber apdu))) ≤ 262144 = w.short in omega arith)

  der-octets_of : (apdu : Apdu) → IsWritable tables Der apdu → AreOctets (written_apdu tables Der apdu)
  unfolding written_apdu
  der-octets_of apdu w = der-octets head_rows apdu_row (ber_value (head_of tables Der apdu)) (der-head apdu w) (let short : length (written head_rows apdu_row (ber_value (head_of tables Der apdu))) ≤ 262144 = w.short in omega arith)

  -- ---- as what is transferred

  whole-so : (id : ℕ) (os : List ℕ) → has_form transfer_rows transfer_row (pdv_value (pdv_with id Ber os)) ≡ true → is_whole os ≡ true
  unfolding has_form
  whole-so id os h = (and_parts (is_whole os) true (and_parts _ (is_whole os && true) h).1).0

  packed-so : (id : ℕ) (os : List ℕ) → has_form transfer_rows transfer_row (pdv_value (pdv_with id Packed os)) ≡ true → AreOctets os
  unfolding has_form
  packed-so id os h =
      octets_by_test os
      (and_parts (list_all is_octet os) (nat_le (length os) 4294967295) (and_parts (list_all is_octet os && nat_le (length os) 4294967295) true (and_parts _ ((list_all is_octet os && nat_le (length os) 4294967295) && true) h).1).0).0

  pub content-is : (id : ℕ) (syntax : Syntax) (apdu : Apdu) → IsContext id → IsWritable tables syntax apdu → IsContent (in_form syntax (written_apdu tables syntax apdu))
  content-is id Ber apdu i w = (whole-so id (written_apdu tables Ber apdu) (values-transfers tables id Ber apdu m i.0 i.1 w).fitting, ber-octets apdu w)
  content-is id Der apdu i w = (whole-so id (written_apdu tables Der apdu) (values-transfers tables id Der apdu m i.0 i.1 w).fitting, der-octets_of apdu w)
  content-is id Packed apdu i w = packed-so id (written_apdu tables Packed apdu) (values-transfers tables id Packed apdu m i.0 i.1 w).fitting

  pub content-few : (syntax : Syntax) (apdu : Apdu) → IsWritable tables syntax apdu → content_length (in_form syntax (written_apdu tables syntax apdu)) ≤ 262144
  content-few Ber apdu w = w.short
  content-few Der apdu w = w.short
  content-few Packed apdu w = w.short
