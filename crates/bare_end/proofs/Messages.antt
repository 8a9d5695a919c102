-- The head that is read says what its octets say, whatever it carries.
use Rattle.std.proofs.Common.{◌≡◌, ℕ, Bool, true, false, nat_eq, if◌then◌else◌, List, length, Option, Some, None, Result, Ok, Err, refl, sym, ap, subst, ◌∙◌, arith, option_map}
use Rattle.osi_base.specs.declared.syntax.Syntax.TheVariants.{Ber}
use Rattle.osi_base.specs.Octets.{AreOctets}
use Rattle.ber_spelling.specs.declared.fault.ReadFault.{ReadFault}
use Rattle.ber_spelling.specs.Rules.{read_at}
use Rattle.asn1_types.specs.Value.{Value}
use Rattle.asn1_types.specs.declared.value.Val.{Val}
use Rattle.asn1_types.specs.declared.table.TypeTable.{TypeTable}
use Rattle.asn1_types.specs.declared.row.TypeId.{TypeId}
use Rattle.asn1_types.specs.Table.{AreSoundRows}
use Rattle.stub_tables.specs.declared.tables.Tables.{Tables}
use Rattle.stub_tables.specs.declared.operation.Use.{Use}
use Rattle.stub_tables.specs.Readable.{IsReadable}
use Rattle.stub_tables.specs.Apdus.{argument_of, result_of, parameter_of, operation_coded, error_coded}
use Rattle.apdu_spelling.specs.declared.head.ApduHead.{ApduHead}
use Rattle.apdu_spelling.specs.Heads as heads
use Rattle.apdu_spelling.specs.Spellings.{CarriedAs, fields_in}
use Rattle.end_wire.specs.apdu_codec.declared.fault.HeadFault.{HeadFault}
use Rattle.end_wire.specs.apdu_codec.declared.fault.HeadFault.TheVariants as fault
use Rattle.end_wire.specs.apdu_codec.Refusals.{refusal_of}
use Rattle.end_wire.specs.apdu_codec.HeadsRead.{HasFields, HasNone}
use Rattle.rose_roles.specs.Heads.{Carries, HeadCarries, said_by}
use Rattle.end_rules.specs.Base.{Carried, Absent, Spelled, Unspelled, HeardHead}
use Rattle.end_rules.specs.Messages.{Unread}
use Rattle.end_wire.specs.Heads.{whole_value, value_at, typed_at, carried_at, value_or_lack, heard_head, refused, heard_or_refused, head_at, apdu_of}
use Rattle.end_wire.specs.Values.{IsContent, content_of, content_at}
use Rattle.end_wire.proofs.HeadLaws.{head_read, no_head}
use Rattle.end_wire.proofs.ValueLaws.{carried_is, carried_spelled}
use Rattle.end_wire.proofs.ContentLaws.{CarriesOctets, content_found, content_kept}
use Rattle.open_invocations.specs.Invocations.{SomeCarried}
use Rattle.bare_end.specs.Told.{HoldsOctets}

-- ---- a reading of octets is none of their lack

by_test : (w : Val) (b : Bool) → (if b then Spelled w else Unspelled) ≡ Absent → ⊥
by_test w true e = cc
by_test w false e = cc

of_whole : (end : ℕ) (r : Result (Value × ℕ) ReadFault) → whole_value end r ≡ Absent → ⊥
of_whole end (Ok x) e = by_test x.0 (nat_eq x.1 end) e
of_whole end (Err f) e = cc

never_absent : (types : TypeTable) (n : ℕ) (os : List ℕ) → value_at Ber types 262144 n os ≡ Absent → ⊥
unfolding value_at
never_absent types n os e = of_whole (length os) (read_at types n false 262144 os) e

-- ---- what octets carry

module _ (types : TypeTable) (sound : AreSoundRows types) (room : ℕ) (used : Option Use) (os : List ℕ) (are : AreOctets os) where
  unspelled : carried_at Ber types 262144 used (Some os) ≡ Unspelled → (v : Val) → CarriedAs Ber types 262144 used (Some v) (Some os) → ⊥
  unspelled e v p =
      let x : Spelled v ≡ Unspelled = sym (carried_is Ber types sound 262144 (omega arith) used v os p) ∙ e in cc

  spelled_as : (v : Val) (used_ : Option Use) → value_or_lack used_ (Spelled v) ≡ Some (Some v)
  spelled_as v None = refl
  spelled_as v (Some u) = refl

  spelled : (v : Val) → carried_at Ber types 262144 used (Some os) ≡ Spelled v → CarriedAs Ber types 262144 used (Some v) (Some os)
  spelled v e = carried_spelled Ber types 262144 used (Some v) (Some os) are (ap (value_or_lack used) e ∙ spelled_as v used)

  typed_there : (of : Option TypeId) → typed_at Ber types 262144 of os ≡ Absent → ⊥
  typed_there None e = cc
  typed_there (Some of) e = never_absent types of.0 os e

  there : (used_ : Option Use) → carried_at Ber types 262144 used_ (Some os) ≡ Absent → ⊥
  there None e = cc
  there (Some u) e = typed_there u.inner e

  carries_by : (c : Carried) → carried_at Ber types 262144 used (Some os) ≡ c → Carries Ber types room used (Some os) c
  carries_by Absent e = absurd (there used e)
  carries_by (Spelled v) e = spelled v e
  carries_by Unspelled e = unspelled e

-- octets, where there are some
pub carries_at : (types : TypeTable) → AreSoundRows types → (room : ℕ) (used : Option Use) (os : Option (List ℕ)) → HoldsOctets os → Carries Ber types room used os (carried_at Ber types 262144 used os)
carries_at types sound room None None are = tt
carries_at types sound room (Some u) None are = tt
carries_at types sound room used (Some os) are = carries_by types sound room used os are (carried_at Ber types 262144 used (Some os)) refl

-- ---- what a head says

-- what the head carries, so that it says this
pub record HeadSays (tables : Tables) (fields : ApduHead) (head : HeardHead) : Type 0 where
  pub carried : Carried
  pub carries : HeadCarries tables Ber fields carried
  pub says : said_by fields carried ≡ head

module _ (tables : Tables) (readable : IsReadable tables) where
  says_so : (h : heads.Head) → HoldsOctets (fields_in Ber h).rest → HeadSays tables (fields_in Ber h) (heard_head tables Ber h)
  says_so (heads.invoke id linked code octets) are =
      let used : Option Use = option_map argument_of (operation_coded tables code) in
      record { carried = carried_at Ber tables.types 262144 used octets; carries = carries_at tables.types readable.types 262144 used octets are; says = refl }
  says_so (heads.result id None) are = record { carried = Absent; carries = tt; says = refl }
  says_so (heads.result id (Some o)) are =
      let used : Option Use = option_map result_of (operation_coded tables o.code) in
      record { carried = carried_at Ber tables.types 262144 used (Some o.octets); carries = carries_at tables.types readable.types 262144 used (Some o.octets) are; says = refl }
  says_so (heads.error id code octets) are =
      let used : Option Use = option_map parameter_of (error_coded tables code) in
      record { carried = carried_at Ber tables.types 262144 used octets; carries = carries_at tables.types readable.types 262144 used octets are; says = refl }
  says_so (heads.reject id problem) are = record { carried = Absent; carries = tt; says = refl }

carries : (h : heads.Head) → HoldsOctets (heads.fields_of h).rest → CarriesOctets h
carries (heads.invoke id linked code None) p = tt
carries (heads.invoke id linked code (Some os)) p = p
carries (heads.result id None) p = tt
carries (heads.result id (Some o)) p = p
carries (heads.error id code None) p = tt
carries (heads.error id code (Some os)) p = p
carries (heads.reject id problem) p = tt

module _ (tables : Tables) (readable : IsReadable tables) (text : List ℕ) where
  module _ (fields : ApduHead) (p : HasFields Ber text fields) (os : HoldsOctets fields.rest) where
    at_fields : HoldsOctets (fields_in Ber p.head).rest
    at_fields = subst (λ (f : ApduHead). HoldsOctets f.rest) p.are os

    head_is : heard_head tables Ber p.head ≡ head_at tables Ber text
    unfolding head_at
    head_is = sym (ap (heard_or_refused tables Ber text) (head_read Ber text p.head p.spells))

    pub fields_say : HeadSays tables fields (head_at tables Ber text)
    fields_say =
        subst (λ (f : ApduHead). HeadSays tables f (head_at tables Ber text)) (sym p.are)
        (subst (λ (h : HeardHead). HeadSays tables (fields_in Ber p.head) h) head_is (says_so tables readable p.head at_fields))

    pub fields_carry : SomeCarried tables Ber fields
    fields_carry = let s = fields_say in record { carried = s.carried; carries = s.carries }

    pub fields_mean : IsContent tables Ber text (content_at tables Ber text)
    fields_mean = content_found tables readable Ber text p.head p.spells (carries p.head at_fields)

  module _ (are : AreOctets text) (none : HasNone Ber text) where
    pub refused_read : (f : HeadFault) → refusal_of Ber text ≡ f → refused f ≡ head_at tables Ber text
    unfolding head_at
    refused_read f e = ap refused (sym e) ∙ sym (ap (heard_or_refused tables Ber text) (no_head Ber text are none))

    kept : (f : HeadFault) → content_of text (apdu_of tables (refused f)) ≡ Unread text
    kept (fault.General number) = refl
    kept fault.BadReject = refl
    kept fault.NoMemory = refl

    pub refused_mean : IsContent tables Ber text (content_at tables Ber text)
    refused_mean =
        let same : content_at tables Ber text ≡ Unread text = ap (λ (h : HeardHead). content_of text (apdu_of tables h)) (sym (refused_read (refusal_of Ber text) refl)) ∙ kept (refusal_of Ber text) in
        subst (IsContent tables Ber text) (sym same) (content_kept tables readable Ber text none)
