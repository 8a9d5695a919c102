-- The head that is read says what its octets say in their syntax, whatever it carries.
use Rattle.std.proofs.Common.{◌≡◌, ℕ, IfOk, List, Some, None, Result, Ok, Err, refl, sym, ap, subst, ◌∙◌, arith, option_map}
use Rattle.std.specs.Prelude.{IfSome}
use Rattle.osi_base.specs.declared.syntax.Syntax.{Syntax}
use Rattle.osi_base.specs.declared.syntax.Syntax.TheVariants.{Ber, Der, Packed}
use Rattle.osi_base.specs.declared.fault.NoMemory.{NoMemory}
use Rattle.osi_base.specs.Octets.{AreOctets}
use Rattle.stub_tables.specs.declared.tables.Tables.{Tables}
use Rattle.stub_tables.specs.Readable.{IsReadable}
use Rattle.stub_tables.specs.Apdus.{argument_of, result_of, parameter_of, operation_coded, error_coded}
use Rattle.apdu_spelling.specs.declared.head.ApduHead.{ApduHead}
use Rattle.apdu_spelling.specs.Heads as heads
use Rattle.apdu_spelling.specs.Spellings.{room_behind, fields_in}
use Rattle.end_wire.specs.apdu_codec.declared.fault.HeadFault.{HeadFault}
use Rattle.end_wire.specs.apdu_codec.declared.fault.HeadFault.TheVariants as fault
use Rattle.end_wire.specs.apdu_codec.Refusals.{refusal_of}
use Rattle.end_wire.specs.apdu_codec.HeadsRead.{HasFields, HasNone, IsRefused}
use Rattle.rose_roles.specs.declared.apdu_taken.RoseTaken.{RoseTaken}
use Rattle.rose_roles.specs.Heads.{said_by}
use Rattle.rose_roles.specs.Hearing.{heard_with, refused_as, Hears}
use Rattle.rose_roles.specs.Laws.{carried_by}
use Rattle.rose_roles.proofs.Carrying.{always_carries}
use Rattle.association_answers.specs.open_invocations.Invocations.{SomeCarried}
use Rattle.end_rules.specs.Base.{Base, InvokeHead, ResultHead, ErrorHead}
use Rattle.end_rules.specs.State.{Calls}
use Rattle.end_rules.specs.Hearing.{hear}
use Rattle.end_wire.specs.Heads.{carried_at, heard_head, refused, heard_or_refused, head_at, room_in}
use Rattle.end_wire.proofs.HeadLaws.{head_read, no_head}

same_room : (s : Syntax) (h : heads.Head) → room_in s (room_behind s h) ≡ room_behind s h
same_room Ber h = refl
same_room Der h = refl
same_room Packed h = omega arith

module _ (tables : Tables) (s : Syntax) where
  -- the fields of a head that was read say it with what they carry
  says_so : (h : heads.Head) → said_by (fields_in s h) (carried_by tables s (fields_in s h)) ≡ heard_head tables s h
  says_so (heads.invoke id linked code os) =
      ap (λ (n : ℕ). InvokeHead id linked code (carried_at s tables.types n (option_map argument_of (operation_coded tables code)) os)) (same_room s (heads.invoke id linked code os))
  says_so (heads.result id None) = refl
  says_so (heads.result id (Some o)) =
      ap (λ (n : ℕ). ResultHead id (Some o.code) (carried_at s tables.types n (option_map result_of (operation_coded tables o.code)) (Some o.octets))) (same_room s (heads.result id (Some o)))
  says_so (heads.error id code os) =
      ap (λ (n : ℕ). ErrorHead id code (carried_at s tables.types n (option_map parameter_of (error_coded tables code)) os)) (same_room s (heads.error id code os))
  says_so (heads.reject id problem) = refl

module _ (tables : Tables) (readable : IsReadable tables) (s : Syntax) (text : List ℕ) where
  -- ---- a head

  module _ (fields : ApduHead) (p : HasFields s text fields) (os : IfSome fields.rest AreOctets) where
    head_is : heard_head tables s p.head ≡ head_at tables s text
    unfolding head_at
    head_is = sym (ap (heard_or_refused tables s text) (head_read s text p.head p.spells))

    fields_say : said_by fields (carried_by tables s fields) ≡ head_at tables s text
    fields_say = subst (λ (f : ApduHead). said_by f (carried_by tables s f) ≡ head_at tables s text) (sym p.are) (says_so tables s p.head ∙ head_is)

    pub fields_carry : SomeCarried tables s fields
    fields_carry = record { carried = carried_by tables s fields; carries = always_carries tables s fields readable.types os }

    module _ (base : Base) (same : base.tables ≡ tables) (context : ℕ) (before after : Calls) where
      heard_one : (taken : RoseTaken) → Hears tables s context fields before after taken → heard_with after taken ≡ hear base before context (head_at tables s text)
      heard_one taken h = h base (carried_by tables s fields) same (always_carries tables s fields readable.types os) ∙ ap (hear base before context) fields_say

      -- what is heard of a head is what its octets say
      pub heard_so : (r : Result RoseTaken NoMemory) → IfOk r (λ taken. Hears tables s context fields before after taken) → IfOk r (λ taken. heard_with after taken ≡ hear base before context (head_at tables s text))
      heard_so (Ok taken) h = heard_one taken h
      heard_so (Err fault) h = tt

  -- ---- octets that are no head

  module _ (are : AreOctets text) where
    refused_read : HasNone s text → (f : HeadFault) → refusal_of s text ≡ f → refused f ≡ head_at tables s text
    unfolding head_at
    refused_read none f e = ap refused (sym e) ∙ sym (ap (heard_or_refused tables s text) (no_head s text are none))

    module _ (base : Base) (context : ℕ) (calls : Calls) where
      refused_by : (f : HeadFault) → IsRefused s text f → IfOk (refused_as f) (λ taken. heard_with calls taken ≡ hear base calls context (head_at tables s text))
      refused_by (fault.General number) p = ap (hear base calls context) (refused_read p.0 (fault.General number) p.1)
      refused_by fault.BadReject p = ap (hear base calls context) (refused_read p.0 fault.BadReject p.1)
      refused_by fault.NoMemory p = tt

      pub refused_heard : (f : HeadFault) (r : Result RoseTaken NoMemory) → IsRefused s text f → r ≡ refused_as f → IfOk r (λ taken. heard_with calls taken ≡ hear base calls context (head_at tables s text))
      refused_heard f r p e = subst (λ (x : Result RoseTaken NoMemory). IfOk x (λ taken. heard_with calls taken ≡ hear base calls context (head_at tables s text))) (sym e) (refused_by f p)
