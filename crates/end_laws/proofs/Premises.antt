-- The premises of the laws of two ends hold of the codecs and of configurations that aren't refused.
use Rattle.std.proofs.Common.{◌≡◌, refl, sym, subst, true, false, ℕ, ◌≤◌, arith, List, [], ◌∷◌, ◌++◌, length}
use Rattle.std.specs.Prelude.{Bool, ◌||◌, ℤ, pos, negsuc, Option, Some, None, option_map, nat_le, nat_lt}
use Rattle.std.proofs.lemmas.Bool.Decides.{nat_tests}
use Rattle.osi_base.specs.declared.syntax.Syntax.TheVariants.{Der}
use Rattle.osi_base.specs.declared.layer_words.SetItem.{SetItem}
use Rattle.osi_base.specs.Limits.{most_octets}
use Rattle.asn1_types.specs.declared.row.TypeId.{TypeId}
use Rattle.asn1_types.specs.declared.value.Val.{Val}
use Rattle.dialogue.specs.declared.config.Config.{Config}
use Rattle.dialogue.specs.declared.config.Mode.{Mode}
use Rattle.stub_tables.specs.declared.tables.Tables.{Tables}
use Rattle.stub_tables.specs.declared.operation.Operation.{Operation}
use Rattle.stub_tables.specs.declared.operation.ErrorRow.{ErrorRow}
use Rattle.stub_tables.specs.declared.apdu.Apdu.{Apdu}
use Rattle.stub_tables.specs.declared.apdu.Apdu.TheVariants as apdus
use Rattle.stub_tables.specs.declared.apdu.Returned.{Returned}
use Rattle.stub_tables.specs.Readable.{IsReadable}
use Rattle.stub_tables.specs.Uses.{is_carried}
use Rattle.stub_tables.specs.Lookup.{operation_at, error_at, operation_with, error_with}
use Rattle.stub_tables.specs.Apdus.{placed, argument_of, result_of, parameter_of}
use Rattle.apdu_spelling.specs.Writing.{written_apdu, is_identifier, is_identifier_or_none, may_carry, may_return, IsWritable}
use Rattle.apdu_spelling.proofs.Written.{written_spelled}
use Rattle.end_rules.specs.Base.{Base}
use Rattle.end_rules.specs.Invoking.{is_too_long}
use Rattle.end_rules.specs.Hearing.{head_of_apdu}
use Rattle.end_rules.specs.Messages.{Remote}
use Rattle.end_rules.specs.Policy.{is_faulty_proposal}
use Rattle.end_rules.specs.Writing.{own_proposals}
use Rattle.end_wire.specs.Heads.{head_at}
use Rattle.end_wire.proofs.ContentLaws.{content_says}
use Rattle.end_config.proofs.Proposes.{proposes-rightly}
use Rattle.agreement.specs.Sets.Role.{Initiator}
use Rattle.end_model.specs.OpenInvocations.{IsNumber, IsNamed, IsProper, FitsReturned, fits_argument, fits_result, fits_parameter, operation_of_code, error_of_code}
use Rattle.end_model.specs.Acting.{ReadsBack, IsSaidBack}
use Rattle.end_model.specs.BothEnds.{base_at}
use Rattle.end_model.specs.DirectEnds.{ProposesRightly}
use Rattle.end_model.proofs.BareTaking.{bare-modelled, bare-takes}
use Rattle.end_model.proofs.DirectLaws.{direct-modelled, direct-takes, direct-as_sent, direct-one_holder}
use Rattle.end_laws.specs.Codecs.{Transfers, bare_ends, direct_ends, IsDirect}
use Rattle.end_laws.specs.Laws.{BareEndsAreModelled, BareEndsTake, DirectEndsAreModelled, DirectEndsTake, DirectValuesAreAsSent, DirectTurnHasOneHolder}

-- ---- what is written of a proper result or error is read back

not-more : (n : ℕ) → nat_lt most_octets n ≡ false → n ≤ 262144
not-more n h = grind (arith, nat_tests)

second : (a b c : Bool) → ((a || b) || c) ≡ false → b ≡ false
second true b c h = cc
second false true c h = cc
second false false c h = refl

short-in_der : (base : Base) (apdu : Apdu) → is_too_long base apdu ≡ false → length (base.spellings.apdu Der apdu) ≤ 262144
short-in_der base apdu h = not-more (length (base.spellings.apdu Der apdu)) (second _ (nat_lt most_octets (length (base.spellings.apdu Der apdu))) _ h)

identifier : (id : ℤ) → IsNumber id → is_identifier id ≡ true
identifier (pos n) h = let high : n ≤ 2147483647 = h.1 in at-most n high
  where
    at-most : (n : ℕ) → n ≤ 2147483647 → nat_le n 2147483647 ≡ true
    at-most n h = grind (arith, nat_tests)
identifier (negsuc n) h = absurd h

named : (linked : Option ℤ) → IsNamed linked → is_identifier_or_none linked ≡ true
named None h = refl
named (Some id) h = identifier id h

module _ (base : Base) where
  -- a result's value is of the type that its code has
  result-carried : (r : Returned) → FitsReturned base (Some r) → may_return base.tables Der (Some r) ≡ true
  result-carried r h = by-place (operation_with base.tables r.code) h
    where
      by-operation : (o : Option Operation) → fits_result base o (Some r.value) ≡ true → may_carry Der base.tables.types (option_map result_of o) (Some r.value) ≡ true
      by-operation None h = cc
      by-operation (Some operation) h = by-type operation.result.inner h
        where
          by-type : (t : Option TypeId) → is_carried base.tables.types (record { inner = t; optional = operation.result.optional }) (Some r.value) ≡ true
              → may_carry Der base.tables.types (Some (record { inner = t; optional = operation.result.optional })) (Some r.value) ≡ true
          by-type None h = h
          by-type (Some of) h = h

      by-place : (x : Option ℕ) → fits_result base (operation_of_code base x) (Some r.value) ≡ true → may_carry Der base.tables.types (option_map result_of (placed (operation_at base.tables) x)) (Some r.value) ≡ true
      by-place None h = cc
      by-place (Some place) h = by-operation (operation_at base.tables place) h

  parameter-carried : (x : Option ℕ) (parameter : Option Val) → fits_parameter base (error_of_code base x) parameter ≡ true → may_carry Der base.tables.types (option_map parameter_of (placed (error_at base.tables) x)) parameter ≡ true
  parameter-carried None parameter h = cc
  parameter-carried (Some place) parameter h = by-error (error_at base.tables place) h
    where
      by-value : (error : ErrorRow) (p : Option Val) → is_carried base.tables.types error.parameter p ≡ true → may_carry Der base.tables.types (Some error.parameter) p ≡ true
      by-value error None h = h
      by-value error (Some v) h = by-type error.parameter.inner h
        where
          by-type : (t : Option TypeId) → is_carried base.tables.types (record { inner = t; optional = error.parameter.optional }) (Some v) ≡ true
              → may_carry Der base.tables.types (Some (record { inner = t; optional = error.parameter.optional })) (Some v) ≡ true
          by-type None h = h
          by-type (Some of) h = h

      by-error : (e : Option ErrorRow) → fits_parameter base e parameter ≡ true → may_carry Der base.tables.types (option_map parameter_of e) parameter ≡ true
      by-error None h = cc
      by-error (Some error) h = by-value error parameter h

  argument-carried : (x : Option ℕ) (argument : Option Val) → fits_argument base (operation_of_code base x) argument ≡ true → may_carry Der base.tables.types (option_map argument_of (placed (operation_at base.tables) x)) argument ≡ true
  argument-carried None argument h = cc
  argument-carried (Some place) argument h = by-operation (operation_at base.tables place) h
    where
      by-value : (operation : Operation) (a : Option Val) → is_carried base.tables.types operation.argument a ≡ true → may_carry Der base.tables.types (Some operation.argument) a ≡ true
      by-value operation None h = h
      by-value operation (Some v) h = by-type operation.argument.inner h
        where
          by-type : (t : Option TypeId) → is_carried base.tables.types (record { inner = t; optional = operation.argument.optional }) (Some v) ≡ true
              → may_carry Der base.tables.types (Some (record { inner = t; optional = operation.argument.optional })) (Some v) ≡ true
          by-type None h = h
          by-type (Some of) h = h

      by-operation : (o : Option Operation) → fits_argument base o argument ≡ true → may_carry Der base.tables.types (option_map argument_of o) argument ≡ true
      by-operation None h = cc
      by-operation (Some operation) h = by-value operation argument h

  returned-carried : (returned : Option Returned) → FitsReturned base returned → may_return base.tables Der returned ≡ true
  returned-carried None h = refl
  returned-carried (Some r) h = result-carried r h

-- an end hears in what is written of an APDU what the APDU says
heard-back : (config : Config) (tables : Tables) (apdu : Apdu) → IsReadable tables → IsWritable tables Der apdu → head_at tables Der (written_apdu tables Der apdu) ≡ head_of_apdu apdu
heard-back config tables apdu readable writable =
    let held : List SetItem = record { id = 0; pair = record { abstract_name = []; transfer = Der } } ∷ [] in
    sym (content_says tables config held (written_apdu tables Der apdu) (Remote apdu) readable (written_spelled tables readable Der apdu writable))

module _ (tables : Tables) (transfers : Transfers) (a b : Config) (readable : IsReadable tables) where
  abbrev base : Base
  base = base_at Initiator (direct_ends tables transfers a b)

  read-back : (apdu : Apdu) → IsProper base apdu → length (written_apdu tables Der apdu) ≤ 262144 → IsSaidBack base apdu
  read-back (apdus.Invoke id linked code argument) proper short =
      heard-back a tables (apdus.Invoke id linked code argument) readable (record { numbers = rw (identifier id proper.0, named linked proper.1) refl; values = argument-carried base (operation_with tables code) argument proper.2; short = short })
  read-back (apdus.Result id returned) proper short =
      heard-back a tables (apdus.Result id returned) readable (record { numbers = identifier id proper.0; values = returned-carried base returned proper.1; short = short })
  read-back (apdus.Error id code parameter) proper short =
      heard-back a tables (apdus.Error id code parameter) readable (record { numbers = identifier id proper.0; values = parameter-carried base (error_with tables code) parameter proper.1; short = short })
  read-back (apdus.Reject id problem) proper short = tt

  pub direct-back : ReadsBack base
  direct-back = record { reads = λ apdu proper fits. read-back apdu proper (short-in_der base apdu fits) }

  -- the same in bare mode, where the rules stand on the same spellings
  bare-back : ReadsBack (base_at Initiator (bare_ends tables transfers a b))
  bare-back = record { reads = λ apdu proper fits. by-kind apdu proper (short-in_der (base_at Initiator (bare_ends tables transfers a b)) apdu fits) }
    where
      by-kind : (apdu : Apdu) → IsProper (base_at Initiator (bare_ends tables transfers a b)) apdu → length (written_apdu tables Der apdu) ≤ 262144 → IsSaidBack (base_at Initiator (bare_ends tables transfers a b)) apdu
      by-kind (apdus.Invoke id linked code argument) proper short =
          heard-back a tables (apdus.Invoke id linked code argument) readable (record { numbers = rw (identifier id proper.0, named linked proper.1) refl; values = argument-carried (base_at Initiator (bare_ends tables transfers a b)) (operation_with tables code) argument proper.2; short = short })
      by-kind (apdus.Result id returned) proper short =
          heard-back a tables (apdus.Result id returned) readable (record { numbers = identifier id proper.0; values = returned-carried (base_at Initiator (bare_ends tables transfers a b)) returned proper.1; short = short })
      by-kind (apdus.Error id code parameter) proper short =
          heard-back a tables (apdus.Error id code parameter) readable (record { numbers = identifier id proper.0; values = parameter-carried (base_at Initiator (bare_ends tables transfers a b)) (error_with tables code) parameter proper.1; short = short })
      by-kind (apdus.Reject id problem) proper short = tt

  -- the contexts of a configuration that isn't refused are proposed rightly
  pub rightly : IsDirect a → ProposesRightly (direct_ends tables transfers a b)
  rightly right = subst (λ (m : Mode). is_faulty_proposal true [] (own_proposals m ++ a.contexts) ≡ false) right.mode (proposes-rightly a right.accepted)

-- ---- the laws

pub bare_modelled : BareEndsAreModelled
bare_modelled free tables transfers a b writes readable two reached = bare-modelled free tables _ a b writes (bare-back tables transfers a b readable) two reached

pub bare_take : BareEndsTake
bare_take free tables transfers a b writes readable two role message left fault body aborts shown reached comes fails =
    bare-takes free tables _ a b writes (bare-back tables transfers a b readable) two role message left fault body aborts shown reached comes fails

pub direct_modelled : DirectEndsAreModelled
direct_modelled free tables transfers a b writes readable right two reached =
    direct-modelled free tables _ a b writes (direct-back tables transfers a b readable) (rightly tables transfers a b readable right) two reached

pub direct_take : DirectEndsTake
direct_take free tables transfers a b writes readable right two role message left fault body aborts shown reached comes fails =
    direct-takes free tables _ a b writes (direct-back tables transfers a b readable) (rightly tables transfers a b readable right) two role message left fault body aborts shown reached comes fails

pub direct_as_sent : DirectValuesAreAsSent
direct_as_sent free tables transfers a b writes readable right two shared sets role value left set sets_left body answers shown shares comes sent takes =
    direct-as_sent free tables _ a b writes (direct-back tables transfers a b readable) (rightly tables transfers a b readable right) two shared sets role value left set sets_left body answers shown shares comes sent takes

pub direct_one_holder : DirectTurnHasOneHolder
direct_one_holder free tables transfers a b writes readable right two reached holds peer_holds =
    direct-one_holder free tables _ a b writes (direct-back tables transfers a b readable) (rightly tables transfers a b readable right) two reached holds peer_holds
