-- What an accepted Invoke, Answer or Refuse sends.
use Rattle.std.proofs.Common.{◌≡◌, refl, true, false, sym, ap, subst, ℕ, List, [], ◌∷◌}
use Rattle.std.specs.Prelude.{ℤ, Option, Some, None, Ok, is_some}
use Rattle.osi_base.specs.declared.syntax.Pair.{Pair}
use Rattle.asn1_types.specs.declared.value.Val.{Val}
use Rattle.stub_tables.specs.declared.tables.Tables.{Tables}
use Rattle.stub_tables.specs.declared.apdu.Apdu.{Apdu}
use Rattle.stub_tables.specs.declared.apdu.Apdu.TheVariants as apdus
use Rattle.stub_tables.specs.declared.operation.Operation.{Operation}
use Rattle.stub_tables.specs.declared.operation.ErrorRow.{ErrorRow}
use Rattle.stub_tables.specs.Lookup.{operation_at, error_at}
use Rattle.dialogue.specs.declared.config.Config.{Config}
use Rattle.dialogue.specs.declared.config.Mode.TheVariants.{Direct}
use Rattle.dialogue.specs.declared.call.Call.TheVariants as the_calls
use Rattle.dialogue.specs.declared.call.CallRefusal.TheVariants as refusals
use Rattle.end_model.specs.end_rules.Base.{Base, Spellings}
use Rattle.osi_base.specs.SetPlaces.{pair_of}
use Rattle.end_model.specs.end_rules.State.{Body, OpenCall, opened_with}
use Rattle.end_model.specs.end_rules.Messages.{Message, Remote}
use Rattle.end_model.specs.end_rules.Hearing.{data_on}
use Rattle.end_model.specs.end_rules.Invoking.{is_too_long, is_stopped, carrier_in, invoke_apdu, result_apdu, error_apdu}
use Rattle.end_model.specs.end_rules.Calling.{can_call}
use Rattle.end_model.specs.end_rules.Requesting.{due_of, due_invoke, due_outcome, sent_at_once, result_in, result_for, error_for, operation_opened}
use Rattle.agreement.specs.Sets.{Role}
use Rattle.agreement.specs.Sets.Role.{Initiator, Responder}
use Rattle.end_model.specs.Seen.{Free}
use Rattle.end_model.specs.Acting.{IsSoundBody, ReadsBack, HandsIn, as_list, invoked_as}
use Rattle.end_model.specs.OpenInvocations.{IsProper}
use Rattle.end_model.specs.BothEnds.{Common, base_at, WritesAll}
use Rattle.end_model.specs.DirectEnds.{direct_common}
use Rattle.end_model.proofs.Ladder.{passed, called}
use Rattle.end_model.proofs.InvokeRungs.{invokable}
use Rattle.end_model.proofs.Handing.{has-pair, carrier-sends}
use Rattle.end_model.proofs.HandingRows.{invoke-in}
use Rattle.end_model.proofs.OutcomeRows.{answer-in, refuse-in}
use Rattle.end_model.proofs.DirectCalling as calling
use Rattle.reliable_model.specs.Codecs.{IsShort, IsTransferable}
use Rattle.said_words.specs.Words.{IsMessage, AreMessages}
use Rattle.said_words.proofs.Lists.{AreListed, listed-pair}

-- ---- what calls hand in is no reject

abbrev IsNoReject : Apdu → Type 0
IsNoReject (apdus.Invoke id linked code argument) = Unit {0}
IsNoReject (apdus.Result id returned) = Unit {0}
IsNoReject (apdus.Error id code parameter) = Unit {0}
IsNoReject (apdus.Reject id problem) = ⊥

short-so : (base : Base) (apdu : Apdu) → IsNoReject apdu → is_too_long base apdu ≡ false → IsShort base apdu
short-so base (apdus.Invoke id linked code argument) n h = h
short-so base (apdus.Result id returned) n h = h
short-so base (apdus.Error id code parameter) n h = h
short-so base (apdus.Reject id problem) n h = absurd n

head_apdu : Apdu → List Apdu → Apdu
head_apdu apdu [] = apdu
head_apdu apdu (x ∷ xs) = x

one-apdu : (x y : Apdu) → x ∷ [] ≡ y ∷ [] → x ≡ y
unfolding head_apdu
one-apdu x y e = ap (head_apdu x) e

result-handed : (id : ℤ) (result : Option Val) (o : Option Operation) (apdu : Apdu) → as_list (result_for id result o) ≡ apdu ∷ [] → (result_for id result o ≡ Some apdu) × IsNoReject apdu
result-handed id result None apdu e = cc
result-handed id result (Some operation) apdu e =
    let s = one-apdu (result_apdu operation id result) apdu e in (ap Some s, subst IsNoReject s tt)

error-handed : (id : ℤ) (parameter : Option Val) (o : Option ErrorRow) (apdu : Apdu) → as_list (error_for id parameter o) ≡ apdu ∷ [] → (error_for id parameter o ≡ Some apdu) × IsNoReject apdu
error-handed id parameter None apdu e = cc
error-handed id parameter (Some error) apdu e =
    let s = one-apdu (error_apdu error id parameter) apdu e in (ap Some s, subst IsNoReject s tt)

some-pair : (p : Option Pair) → is_some p ≡ true → (pair : Pair) × (p ≡ Some pair)
some-pair None h = cc
some-pair (Some pair) h = (pair, refl)

module _ (free : Free) (tables : Tables) (spellings : Spellings) (a b : Config) where
  abbrev common : Common
  common = direct_common tables spellings a b

  abbrev base : Role → Base
  base role = base_at role common

  abbrev AreSaid : List Message → Type 0
  AreSaid messages = AreMessages (base Initiator) (base Responder) messages

  -- what may be transferred doesn't hang on whose it is
  pub to-initiator : (role : Role) (apdu : Apdu) → IsTransferable (base role) apdu → IsTransferable (base Initiator) apdu
  to-initiator role (apdus.Invoke id linked code argument) t = record { proper = t.proper; short = t.short }
  to-initiator role (apdus.Result id returned) t = record { proper = t.proper; short = t.short }
  to-initiator role (apdus.Error id code parameter) t = record { proper = t.proper; short = t.short }
  to-initiator role (apdus.Reject id problem) t = record { proper = t.proper; short = t.short }

  pub of-initiator : (role : Role) (apdu : Apdu) → IsTransferable (base Initiator) apdu → IsTransferable (base role) apdu
  of-initiator role (apdus.Invoke id linked code argument) t = record { proper = t.proper; short = t.short }
  of-initiator role (apdus.Result id returned) t = record { proper = t.proper; short = t.short }
  of-initiator role (apdus.Error id code parameter) t = record { proper = t.proper; short = t.short }
  of-initiator role (apdus.Reject id problem) t = record { proper = t.proper; short = t.short }

  -- data on a context that is held
  pub data-said : (role : Role) (body : Body) (id : ℕ) (apdu : Apdu) → is_some (pair_of body.sets.held id) ≡ true → AreListed body.sets.held → IsTransferable (base role) apdu → IsMessage (base Initiator) (base Responder) (data_on body id apdu)
  data-said role body id apdu there listed t =
      let p = some-pair (pair_of body.sets.held id) there in
      record {
        item = record { id = id; pair = p.0; apdu = apdu };
        is_one = ap (λ q. record { id = id; pair = q; content = Remote apdu } ∷ []) p.1;
        transferable = to-initiator role apdu t;
        context = listed-pair body.sets.held id listed there;
      }

  pub carrier-there : (role : Role) (body : Body) (context k : ℕ) → carrier_in (base role) body context ≡ Some k → is_some (pair_of body.sets.held k) ≡ true
  carrier-there role body context k e = ap is_some (carrier-sends tables.name_oid body.sets.held body.sets.own context k e).there

  -- on the carrier, where there is one
  pub carried-said : (role : Role) (body : Body) (context : ℕ) (apdu : Apdu) → AreListed body.sets.held → IsTransferable (base role) apdu → AreSaid (sent_at_once Direct body (carrier_in (base role) body context) apdu)
  carried-said role body context apdu listed t = go (carrier_in (base role) body context) refl
    where
      go : (c : Option ℕ) → carrier_in (base role) body context ≡ c → AreSaid (sent_at_once Direct body c apdu)
      go None e = tt
      go (Some k) e = (data-said role body k apdu (carrier-there role body context k e) listed t, tt)

  module _ (writes : WritesAll free) (back : ReadsBack (base Initiator)) where
    pub invoke-said : (role : Role) (body : Body) (context operation : ℕ) (argument : Option Val) (linked : Option ℤ) (answer : Option ℤ) → AreListed body.sets.held → IsSoundBody Direct (base role) body → can_call (base role) body (the_calls.Invoke context operation argument linked) ≡ Ok answer → AreSaid (due_of (base role) body (the_calls.Invoke context operation argument linked) (Ok answer))
    invoke-said role body context operation argument linked None listed sound can = tt
    invoke-said role body context operation argument linked (Some id) listed sound can = go (operation_at tables operation) h.of_call
      where
        h : HandsIn free Direct (base role) [] body (the_calls.Invoke context operation argument linked) (Some id)
        h = invoke-in Direct context operation argument linked free (base role) [] body (Some id) writes (calling.reads-at free tables spellings a b role back) sound can

        there : is_some (pair_of body.sets.held context) ≡ true
        there =
            let p = passed (is_stopped (base role) body) refusals.Waiting _ (Some id) (called (base role) body (the_calls.Invoke context operation argument linked) (Some id) can).rows in
            let i = invokable (base role) body context operation (operation_at tables operation) argument linked (Some id) p.later in
            let q = has-pair tables.name_oid body.sets.held context i.on_module in
            ap is_some q.1

        go : (o : Option Operation) → invoked_as id linked argument o ≡ h.apdu ∷ [] → AreSaid (due_invoke (base role) body context id linked o argument)
        go None e = tt
        go (Some o) e =
            let s = one-apdu (invoke_apdu o id linked argument) h.apdu e in
            (data-said role body context (invoke_apdu o id linked argument) there listed (record { proper = subst (IsProper (base role)) (sym s) h.is_proper; short = subst (λ x. is_too_long (base role) x ≡ false) (sym s) h.is_short }), tt)

    outcome-said : (role : Role) (body : Body) (o : Option OpenCall) (x : Option Apdu) (apdu : Apdu) → x ≡ Some apdu → AreListed body.sets.held → IsTransferable (base role) apdu → AreSaid (due_outcome (base role) body o x)
    outcome-said role body None x apdu e listed t = tt
    outcome-said role body (Some o) x apdu e listed t = subst (λ y. AreSaid (due_outcome (base role) body (Some o) y)) (sym e) (carried-said role body o.context apdu listed t)

    pub answer-said : (role : Role) (body : Body) (id : ℤ) (result : Option Val) (answer : Option ℤ) → AreListed body.sets.held → IsSoundBody Direct (base role) body → can_call (base role) body (the_calls.Answer id result) ≡ Ok answer → AreSaid (due_of (base role) body (the_calls.Answer id result) (Ok answer))
    answer-said role body id result answer listed sound can =
        let h = answer-in Direct id result free (base role) [] body answer writes (calling.reads-at free tables spellings a b role back) sound can in
        let r = result-handed id result (operation_opened (base role) (opened_with false id body.calls.opens)) h.apdu h.of_call in
        outcome-said role body (opened_with false id body.calls.opens) (result_in (base role) body id result) h.apdu r.0 listed (record { proper = h.is_proper; short = short-so (base role) h.apdu r.1 h.is_short })

    pub refuse-said : (role : Role) (body : Body) (id : ℤ) (error : ℕ) (parameter : Option Val) (answer : Option ℤ) → AreListed body.sets.held → IsSoundBody Direct (base role) body → can_call (base role) body (the_calls.Refuse id error parameter) ≡ Ok answer → AreSaid (due_of (base role) body (the_calls.Refuse id error parameter) (Ok answer))
    refuse-said role body id error parameter answer listed sound can =
        let h = refuse-in Direct id error parameter free (base role) [] body answer writes (calling.reads-at free tables spellings a b role back) sound can in
        let r = error-handed id parameter (error_at tables error) h.apdu h.of_call in
        outcome-said role body (opened_with false id body.calls.opens) (error_for id parameter (error_at tables error)) h.apdu r.0 listed (record { proper = h.is_proper; short = short-so (base role) h.apdu r.1 h.is_short })
