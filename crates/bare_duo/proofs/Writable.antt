-- What calls write in bare mode can be written, and is read back as what it says.
use Rattle.std.proofs.Common.{◌≡◌, ℕ, ◌≤◌, Bool, true, false, ◌||◌, ◌&&◌, List, [], ◌∷◌, length, refl, sym, ap, ◌∙◌, arith}
use Rattle.std.specs.Prelude.{ℤ, pos, negsuc, Option, Some, None, option_map, nat_lt}
use Rattle.std.proofs.lemmas.Bool.Decides.{nat_tests}
use Rattle.osi_base.specs.declared.syntax.Syntax.{Syntax}
use Rattle.osi_base.specs.declared.syntax.Syntax.TheVariants.{Ber, Der, Packed}
use Rattle.osi_base.specs.declared.layer_words.SetItem.{SetItem}
use Rattle.osi_base.specs.declared.layer_words.Problem.{Problem}
use Rattle.asn1_types.specs.declared.value.Val.{Val}
use Rattle.asn1_types.specs.declared.row.TypeId.{TypeId}
use Rattle.asn1_types.specs.declared.table.TypeTable.{TypeTable}
use Rattle.stub_tables.specs.declared.tables.Tables.{Tables}
use Rattle.stub_tables.specs.declared.operation.Operation.{Operation}
use Rattle.stub_tables.specs.declared.operation.ErrorRow.{ErrorRow}
use Rattle.stub_tables.specs.declared.apdu.Apdu.{Apdu}
use Rattle.stub_tables.specs.declared.apdu.Apdu.TheVariants as apdus
use Rattle.stub_tables.specs.declared.apdu.Returned.{Returned}
use Rattle.stub_tables.specs.Readable.{IsReadable}
use Rattle.stub_tables.specs.Lookup.{operation_at, error_at, operation_with, error_with}
use Rattle.stub_tables.specs.Uses.{fits_type}
use Rattle.stub_tables.specs.Apdus.{placed, argument_of, result_of, parameter_of}
use Rattle.apdu_spelling.specs.Writing.{written_apdu, IsWritable, is_identifier, is_identifier_or_none, may_carry, may_return, is_typed}
use Rattle.apdu_spelling.specs.Laws.{WrittenIsSpelled}
use Rattle.dialogue.specs.declared.config.Config.{Config}
use Rattle.end_rules.specs.Base.{Base}
use Rattle.end_rules.specs.Messages.{Remote}
use Rattle.end_rules.specs.Invoking.{is_too_long, is_too_long_in}
use Rattle.end_rules.specs.Hearing.{head_of_apdu}
use Rattle.end_rules.specs.Base.{Spellings}
use Rattle.bare_end.specs.end_wire.Heads.{head_at}
use Rattle.bare_end.specs.end_wire.Values.{bare_spellings}
use Rattle.bare_end.specs.end_wire.Laws.{ContentSays}
use Rattle.end_model.specs.OpenInvocations.{IsNumber, IsNamed, IsProper, fits_argument, fits_result, fits_parameter, operation_of_code, error_of_code, FitsReturned}
use Rattle.end_model.specs.Acting.{IsSaidBack, ReadsBack}

-- ---- numbers

number_fits : (id : ℤ) → IsNumber id → is_identifier id ≡ true
number_fits (pos n) i = let l = i.1 in grind (arith, nat_tests)
number_fits (negsuc n) i = absurd i

named_fits : (id : Option ℤ) → IsNamed id → is_identifier_or_none id ≡ true
named_fits None i = refl
named_fits (Some id) i = number_fits id i

-- ---- values: BER and DER ask alike

abbrev AsksAlike : Syntax → Type 0
AsksAlike s = (types : TypeTable) (inner : Option TypeId) (v : Val) → fits_type types inner v ≡ true → is_typed s types inner v ≡ true

alike-ber : AsksAlike Ber
alike-ber types None v h = h
alike-ber types (Some of) v h = h

alike-der : AsksAlike Der
alike-der types None v h = h
alike-der types (Some of) v h = h

module _ (t : Tables) (base : Base) (its : base.tables ≡ t) (s : Syntax) (alike : AsksAlike s) where
  argument_may : (o : Option Operation) (v : Option Val) → fits_argument base o v ≡ true → may_carry s t.types (option_map argument_of o) v ≡ true
  argument_may None v h = cc
  argument_may (Some operation) None h = h
  argument_may (Some operation) (Some v) h = alike t.types operation.argument.inner v (ap (λ (x : Tables). fits_type x.types operation.argument.inner v) (sym its) ∙ h)

  result_may : (o : Option Operation) (v : Option Val) → fits_result base o v ≡ true → may_carry s t.types (option_map result_of o) v ≡ true
  result_may None v h = cc
  result_may (Some operation) None h = h
  result_may (Some operation) (Some v) h = alike t.types operation.result.inner v (ap (λ (x : Tables). fits_type x.types operation.result.inner v) (sym its) ∙ h)

  parameter_may : (o : Option ErrorRow) (v : Option Val) → fits_parameter base o v ≡ true → may_carry s t.types (option_map parameter_of o) v ≡ true
  parameter_may None v h = cc
  parameter_may (Some error) None h = h
  parameter_may (Some error) (Some v) h = alike t.types error.parameter.inner v (ap (λ (x : Tables). fits_type x.types error.parameter.inner v) (sym its) ∙ h)

  argument_coded : (p : Option ℕ) (v : Option Val) → fits_argument base (operation_of_code base p) v ≡ true → may_carry s t.types (option_map argument_of (placed (operation_at t) p)) v ≡ true
  argument_coded None v h = cc
  argument_coded (Some place) v h = argument_may (operation_at t place) v (ap (λ (x : Tables). fits_argument base (operation_at x place) v) (sym its) ∙ h)

  result_coded : (p : Option ℕ) (v : Option Val) → fits_result base (operation_of_code base p) v ≡ true → may_carry s t.types (option_map result_of (placed (operation_at t) p)) v ≡ true
  result_coded None v h = cc
  result_coded (Some place) v h = result_may (operation_at t place) v (ap (λ (x : Tables). fits_result base (operation_at x place) v) (sym its) ∙ h)

  parameter_coded : (p : Option ℕ) (v : Option Val) → fits_parameter base (error_of_code base p) v ≡ true → may_carry s t.types (option_map parameter_of (placed (error_at t) p)) v ≡ true
  parameter_coded None v h = cc
  parameter_coded (Some place) v h = parameter_may (error_at t place) v (ap (λ (x : Tables). fits_parameter base (error_at x place) v) (sym its) ∙ h)

  returned_may : (r : Option Returned) → FitsReturned base r → may_return t s r ≡ true
  returned_may None h = refl
  returned_may (Some r) h = result_coded (operation_with t r.code) (Some r.value) (ap (λ (x : Tables). fits_result base (operation_of_code base (operation_with x r.code)) (Some r.value)) (sym its) ∙ h)

  -- an invocation or an outcome
  pub writable : (a : Apdu) → ((id : Option ℤ) (problem : Problem) → a ≡ apdus.Reject id problem → ⊥) → IsProper base a → length (written_apdu t s a) ≤ 262144 → IsWritable t s a
  writable (apdus.Invoke id linked code argument) n p l = record {
    numbers = ap (λ (b : Bool). b && is_identifier_or_none linked) (number_fits id p.0) ∙ named_fits linked p.1;
    values = argument_coded (operation_with t code) argument (ap (λ (x : Tables). fits_argument base (operation_of_code base (operation_with x code)) argument) (sym its) ∙ p.2);
    short = l;
  }
  writable (apdus.Result id returned) n p l = record { numbers = number_fits id p.0; values = returned_may returned p.1; short = l }
  writable (apdus.Error id code parameter) n p l = record {
    numbers = number_fits id p.0;
    values = parameter_coded (error_with t code) parameter (ap (λ (x : Tables). fits_parameter base (error_of_code base (error_with x code)) parameter) (sym its) ∙ p.1);
    short = l;
  }
  writable (apdus.Reject id problem) n p l = absurd (n id problem refl)

-- ---- lengths

few : (n : ℕ) → nat_lt 262144 n ≡ false → n ≤ 262144
few n h = grind (arith, nat_tests)

three : (a b c : Bool) → (a || b || c) ≡ false → (a ≡ false) × (b ≡ false)
three false false c h = (refl, refl)
three false true c h = cc
three true b c h = cc

pub short_in_ber : (t : Tables) (base : Base) (a : Apdu) → base.spellings ≡ bare_spellings t → is_too_long base a ≡ false → length (written_apdu t Ber a) ≤ 262144
short_in_ber t base a e h =
    few (length (written_apdu t Ber a)) (ap (λ (x : Spellings). nat_lt 262144 (length (x.apdu Ber a))) (sym e) ∙ (three (is_too_long_in base Ber a) (is_too_long_in base Der a) (is_too_long_in base Packed a) h).0)

short_in_der : (t : Tables) (base : Base) (a : Apdu) → base.spellings ≡ bare_spellings t → is_too_long base a ≡ false → length (written_apdu t Der a) ≤ 262144
short_in_der t base a e h =
    few (length (written_apdu t Der a)) (ap (λ (x : Spellings). nat_lt 262144 (length (x.apdu Der a))) (sym e) ∙ (three (is_too_long_in base Ber a) (is_too_long_in base Der a) (is_too_long_in base Packed a) h).1)

pub writable_ber : (t : Tables) (base : Base) (a : Apdu) → base.tables ≡ t → base.spellings ≡ bare_spellings t → ((id : Option ℤ) (problem : Problem) → a ≡ apdus.Reject id problem → ⊥) → IsProper base a → is_too_long base a ≡ false → IsWritable t Ber a
writable_ber t base a e f n p h = writable t base e Ber alike-ber a n p (short_in_ber t base a f h)

-- ---- what is written is read back

-- a context of the set whose values are in DER
abbrev der_set : List SetItem
der_set = record { id = 0; pair = record { abstract_name = []; transfer = Der } } ∷ []

module _ (t : Tables) (config : Config) (base : Base) (readable : IsReadable t) (its : base.tables ≡ t) (spelled : base.spellings ≡ bare_spellings t) (written : WrittenIsSpelled) (says : ContentSays) where
  back_at : (a : Apdu) → ((id : Option ℤ) (problem : Problem) → a ≡ apdus.Reject id problem → ⊥) → IsProper base a → is_too_long base a ≡ false → head_of_apdu a ≡ head_at t Der (written_apdu t Der a)
  back_at a n p h =
      let w = writable t base its Der alike-der a n p (short_in_der t base a spelled h) in
      says t config der_set (written_apdu t Der a) (Remote a) readable (written t Der a readable w)

  pub reads_back : ReadsBack base
  reads_back = record { reads = go }
    where
      go : (a : Apdu) → IsProper base a → is_too_long base a ≡ false → IsSaidBack base a
      go (apdus.Invoke id linked code argument) p h =
          ap (λ (x : Spellings). x.head Der (x.apdu Der (apdus.Invoke id linked code argument))) spelled ∙ sym (back_at (apdus.Invoke id linked code argument) (λ i q e. cc) p h)
      go (apdus.Result id returned) p h =
          ap (λ (x : Spellings). x.head Der (x.apdu Der (apdus.Result id returned))) spelled ∙ sym (back_at (apdus.Result id returned) (λ i q e. cc) p h)
      go (apdus.Error id code parameter) p h =
          ap (λ (x : Spellings). x.head Der (x.apdu Der (apdus.Error id code parameter))) spelled ∙ sym (back_at (apdus.Error id code parameter) (λ i q e. cc) p h)
      go (apdus.Reject id problem) p h = tt
