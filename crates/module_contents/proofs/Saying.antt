-- The fields of a head that octets spell say what the octets say.
use Rattle.std.proofs.Common.{◌≡◌, ℕ, ℤ, List, Option, Some, None, refl, sym, ap, subst, ◌∙◌, arith, option_map}
use Rattle.osi_base.specs.declared.syntax.Syntax.{Syntax}
use Rattle.osi_base.specs.declared.syntax.Syntax.TheVariants.{Ber, Der, Packed}
use Rattle.asn1_types.specs.declared.value.Val.{Val}
use Rattle.osi_base.specs.Octets.{AreOctets}
use Rattle.stub_tables.specs.declared.tables.Tables.{Tables}
use Rattle.stub_tables.specs.declared.operation.Code.{Code}
use Rattle.stub_tables.specs.declared.operation.Use.{Use}
use Rattle.stub_tables.specs.declared.apdu.Apdu.TheVariants as apdus
use Rattle.stub_tables.specs.Apdus.{argument_of, result_of, parameter_of, operation_coded, error_coded}
use Rattle.apdu_spelling.specs.declared.head.ApduHead.{ApduHead}
use Rattle.apdu_spelling.specs.Heads as heads
use Rattle.apdu_spelling.specs.Spellings.{room_behind, fields_in}
use Rattle.end_wire.specs.apdu_codec.declared.fault.HeadFault.{HeadFault}
use Rattle.end_wire.specs.apdu_codec.declared.fault.HeadFault.TheVariants as fault
use Rattle.end_wire.specs.apdu_codec.Refusals.{refusal_of}
use Rattle.end_wire.specs.apdu_codec.HeadsRead.{HasFields, HasNone, IsRefused}
use Rattle.end_rules.specs.Base.{Carried, Absent, Spelled, Unspelled, ResultHead}
use Rattle.end_wire.specs.Heads.{carried_at, value_or_lack, heard_head, heard_or_refused, refused, head_at, apdu_of, room_in}
use Rattle.end_wire.proofs.HeadLaws.{head_read, no_head}
use Rattle.module_contents.specs.Said.{value_needed, apdu_by, returned_by}

same_room : (s : Syntax) (h : heads.Head) → room_in s (room_behind s h) ≡ room_behind s h
same_room Ber h = refl
same_room Der h = refl
same_room Packed h = omega arith

module _ (tables : Tables) (s : Syntax) where
  carried_same : (h : heads.Head) (used : Option Use) (os : Option (List ℕ)) → carried_at s tables.types (room_in s (room_behind s h)) used os ≡ carried_at s tables.types (room_behind s h) used os
  carried_same h used os = ap (λ (n : ℕ). carried_at s tables.types n used os) (same_room s h)

  of_result : (id : ℤ) (code : Code) (c : Carried) → returned_by id code (value_needed c) ≡ apdu_of tables (ResultHead id (Some code) c)
  of_result id code Absent = refl
  of_result id code (Spelled v) = refl
  of_result id code Unspelled = refl

  said_by : (h : heads.Head) → apdu_by tables s (fields_in s h) (fields_in s h).kind ≡ apdu_of tables (heard_head tables s h)
  said_by (heads.invoke id linked code os) =
      let used : Option Use = option_map argument_of (operation_coded tables code) in
      ap (λ (c : Carried). option_map (λ (v : Option Val). apdus.Invoke id linked code v) (value_or_lack used c)) (carried_same (heads.invoke id linked code os) used os)
  said_by (heads.result id None) = refl
  said_by (heads.result id (Some o)) =
      let used : Option Use = option_map result_of (operation_coded tables o.code) in
      ap (λ (c : Carried). returned_by id o.code (value_needed c)) (carried_same (heads.result id (Some o)) used (Some o.octets))
      ∙ of_result id o.code (carried_at s tables.types (room_behind s (heads.result id (Some o))) used (Some o.octets))
  said_by (heads.error id code os) =
      let used : Option Use = option_map parameter_of (error_coded tables code) in
      ap (λ (c : Carried). option_map (λ (v : Option Val). apdus.Error id code v) (value_or_lack used c)) (carried_same (heads.error id code os) used os)
  said_by (heads.reject id problem) = refl

  pub head_says : (text : List ℕ) (fields : ApduHead) → HasFields s text fields → apdu_by tables s fields fields.kind ≡ apdu_of tables (head_at tables s text)
  unfolding head_at
  head_says text fields p =
      ap (λ (f : ApduHead). apdu_by tables s f f.kind) p.are ∙ said_by p.head
      ∙ ap (apdu_of tables) (sym (ap (heard_or_refused tables s text) (head_read s text p.head p.spells)))

  none_refused : (f : HeadFault) → None ≡ apdu_of tables (refused f)
  none_refused (fault.General number) = refl
  none_refused fault.BadReject = refl
  none_refused fault.NoMemory = refl

  no_says : (text : List ℕ) → AreOctets text → HasNone s text → None ≡ apdu_of tables (head_at tables s text)
  unfolding head_at
  no_says text are none =
      none_refused (refusal_of s text) ∙ ap (apdu_of tables) (sym (ap (heard_or_refused tables s text) (no_head s text are none)))

  pub general_says : (text : List ℕ) (f : HeadFault) (n : ℕ) → f ≡ fault.General n → AreOctets text → IsRefused s text f → None ≡ apdu_of tables (head_at tables s text)
  general_says text f n e are p = let q : IsRefused s text (fault.General n) = subst (λ (x : HeadFault). IsRefused s text x) e p in no_says text are q.0

  pub bad_says : (text : List ℕ) (f : HeadFault) → f ≡ fault.BadReject → AreOctets text → IsRefused s text f → None ≡ apdu_of tables (head_at tables s text)
  bad_says text f e are p = let q : IsRefused s text fault.BadReject = subst (λ (x : HeadFault). IsRefused s text x) e p in no_says text are q.0
