-- What is sent of remote operations changes nothing more, and outcomes are those of open invocations.
use Rattle.std.proofs.Common.{◌≡◌, ℕ, ℤ, Bool, true, false, List, map, Option, Some, None, Ok, Err, refl, sym, ap, ◌∙◌}
use Rattle.std.specs.Prelude.{is_some, if◌then◌else◌}
use Rattle.asn1_types.specs.declared.value.Val.{Val}
use Rattle.stub_tables.specs.declared.apdu.Apdu.{Apdu}
use Rattle.stub_tables.specs.declared.operation.Operation.{Operation}
use Rattle.stub_tables.specs.declared.operation.ErrorRow.{ErrorRow}
use Rattle.stub_tables.specs.Lookup.{error_at}
use Rattle.dialogue.specs.declared.config.Mode.{Mode}
use Rattle.dialogue.specs.declared.config.Mode.TheVariants.{Bare, Direct, Reliable}
use Rattle.dialogue.specs.declared.call.Call.{Call}
use Rattle.dialogue.specs.declared.call.Call.TheVariants as the_calls
use Rattle.dialogue.specs.declared.call.CallRefusal.{CallRefusal}
use Rattle.dialogue.specs.declared.call.CallRefusal.TheVariants as refusals
use Rattle.end_rules.specs.Base.{Base}
use Rattle.end_rules.specs.Messages.{Message}
use Rattle.end_rules.specs.State.{Body, Calls, OpenCall, opened_with}
use Rattle.end_rules.specs.Invoking.{Reply, carrier_in, is_stopped, operation_of, can_answer_open, can_answer, can_refuse_open, can_refuse}
use Rattle.end_rules.specs.Requesting.{sent_at_once, handed_in, answering, after_outcome, due_outcome, result_in, error_for}
use Rattle.end_rules.specs.History.{sent, after_steps}
use Rattle.association_hearing.specs.rose_roles.declared.invoked_with.InvokedWith as rose
use Rattle.association_hearing.specs.open_invocations.Invocations.{called_in}
use Rattle.association_hearing.specs.association_calls.Replies.{IsChecked}
use Rattle.association_requests.specs.declared.accepted_call.AcceptedCall.{AcceptedCall}
use Rattle.association_requests.specs.Called.{sent_by, MadeAs, MadeOrLeft}

-- ---- data

sent_in : (base : Base) (mode : Mode) → base.mode ≡ mode → (b from : Body) (carrier : Option ℕ) (apdu : Apdu) → after_steps base b (map sent (sent_at_once mode from carrier apdu)) ≡ b
sent_in base Reliable e b from carrier apdu = refl
sent_in base Direct e b from None apdu = refl
sent_in base Bare e b from None apdu = refl
sent_in base Direct e b from (Some id) apdu = rw e refl
sent_in base Bare e b from (Some id) apdu = rw e refl

pub nothing_more : (base : Base) (b from : Body) (carrier : Option ℕ) (apdu : Apdu) → after_steps base b (map sent (sent_at_once base.mode from carrier apdu)) ≡ b
nothing_more base b from carrier apdu = sent_in base base.mode refl b from carrier apdu

-- what is sent doesn't depend on open invocations
pub whatever_is_open : (mode : Mode) (calls : Calls) (b : Body) (carrier : Option ℕ) (apdu : Apdu) → sent_at_once mode (record b { calls = calls }) carrier apdu ≡ sent_at_once mode b carrier apdu
whatever_is_open Reliable calls b carrier apdu = refl
whatever_is_open Direct calls b None apdu = refl
whatever_is_open Bare calls b None apdu = refl
whatever_is_open Direct calls b (Some id) apdu = refl
whatever_is_open Bare calls b (Some id) apdu = refl

-- ---- refusals of checks

pub refused_checked : (can : Reply) (base : Base) (old : Body) (call : Call) (answer : Option ℤ) (apdu : Option Apdu) (refusal : CallRefusal) → IsChecked can answer apdu (Err refusal) → MadeOrLeft can base old old call (Err refusal)
refused_checked can base old call answer apdu refusals.NoMemory h = tt
refused_checked can base old call answer apdu refusal h = record { answer = h; body = refl }

-- ---- the end of an open invocation

pub not_open : (o : Option OpenCall) → called_in o ≡ None → is_some o ≡ true → ⊥
not_open None h k = absurd cc
not_open (Some o) h k = absurd cc

module _ (base : Base) (old : Body) (id : ℤ) (apdu : Apdu) where
  pub ended_due : (o : Option OpenCall) (called : rose.InvokedWith) (sending : List Message) → called_in o ≡ Some called
      → sending ≡ sent_at_once base.mode (answering id old) (carrier_in base old called.context) apdu → sending ≡ due_outcome base old o (Some apdu)
  ended_due None called sending e h = absurd cc
  ended_due (Some o) called sending e h =
      let at : called.context ≡ o.context = cc in
      h ∙ whatever_is_open base.mode (answering id old).calls old (carrier_in base old called.context) apdu ∙ ap (λ (c : ℕ). sent_at_once base.mode old (carrier_in base old c) apdu) at

  pub ended_body : (o : Option OpenCall) (called : rose.InvokedWith) (new : Body) → called_in o ≡ Some called → new ≡ handed_in base.mode called.context apdu (answering id old) → new ≡ after_outcome base old id o (Some apdu)
  ended_body None called new e h = absurd cc
  ended_body (Some o) called new e h =
      let at : called.context ≡ o.context = cc in
      h ∙ ap (λ (c : ℕ). handed_in base.mode c apdu (answering id old)) at

  outcome_still : (b : Body) (o : Option OpenCall) → after_steps base b (map sent (due_outcome base old o (Some apdu))) ≡ b
  outcome_still b None = refl
  outcome_still b (Some o) = nothing_more base b old (carrier_in base old o.context) apdu

  outcome_body : (o : Option OpenCall) (r : Option Apdu) (new : Body) → r ≡ Some apdu → new ≡ after_outcome base old id o (Some apdu)
      → new ≡ after_steps base (after_outcome base old id o r) (map sent (due_outcome base old o r))
  outcome_body o r new e h =
      let F : Option Apdu → Body = λ (x : Option Apdu). after_steps base (after_outcome base old id o x) (map sent (due_outcome base old o x)) in
      h ∙ sym (outcome_still (after_outcome base old id o (Some apdu)) o) ∙ sym (ap F e)

  -- ---- results and errors

  abbrev its : Option OpenCall
  its = opened_with false id old.calls.opens

  pub answer_made : (value : Option Val) (new : Body) (made : AcceptedCall) → (can_answer base old id value ≡ Ok None) × (result_in base old id value ≡ Some apdu) → made.answer ≡ None
      → sent_by made ≡ due_outcome base old its (Some apdu) → new ≡ after_outcome base old id its (Some apdu) → MadeAs (can_answer base old id value) base old new (the_calls.Answer id value) made
  answer_made value new made c a d b =
      record {
        answer = c.0 ∙ ap (λ (x : Option ℤ). Ok x) (sym a);
        due = d ∙ ap (due_outcome base old its) (sym c.1);
        body = outcome_body its (result_in base old id value) new c.1 b;
      }

  pub refuse_made : (place : ℕ) (parameter : Option Val) (new : Body) (made : AcceptedCall) → (can_refuse base old id place parameter ≡ Ok None) × (error_for id parameter (error_at base.tables place) ≡ Some apdu) → made.answer ≡ None
      → sent_by made ≡ due_outcome base old its (Some apdu) → new ≡ after_outcome base old id its (Some apdu) → MadeAs (can_refuse base old id place parameter) base old new (the_calls.Refuse id place parameter) made
  refuse_made place parameter new made c a d b =
      record {
        answer = c.0 ∙ ap (λ (x : Option ℤ). Ok x) (sym a);
        due = d ∙ ap (due_outcome base old its) (sym c.1);
        body = outcome_body its (error_for id parameter (error_at base.tables place)) new c.1 b;
      }

-- ---- what is answered is open

answered_by : (base : Base) (body : Body) (id : ℤ) (value : Option Val) (b : Bool) (o : Option OpenCall) (operation : Option Operation)
    → (if b then Err refusals.Waiting else can_answer_open base body id o operation value) ≡ Ok None → is_some o ≡ true
answered_by base body id value true o operation h = absurd cc
answered_by base body id value false None operation h = absurd cc
answered_by base body id value false (Some o) operation h = refl

pub answered_open : (base : Base) (body : Body) (id : ℤ) (value : Option Val) → can_answer base body id value ≡ Ok None → is_some (opened_with false id body.calls.opens) ≡ true
answered_open base body id value h =
    answered_by base body id value (is_stopped base body) (opened_with false id body.calls.opens) (operation_of base (opened_with false id body.calls.opens)) h

refused_with : (base : Base) (body : Body) (id : ℤ) (place : ℕ) (parameter : Option Val) (b : Bool) (o : Option OpenCall) (operation : Option Operation) (error : Option ErrorRow)
    → (if b then Err refusals.Waiting else can_refuse_open base body id o operation place error parameter) ≡ Ok None → is_some o ≡ true
refused_with base body id place parameter true o operation error h = absurd cc
refused_with base body id place parameter false None operation error h = absurd cc
refused_with base body id place parameter false (Some o) operation error h = refl

pub refused_open : (base : Base) (body : Body) (id : ℤ) (place : ℕ) (parameter : Option Val) → can_refuse base body id place parameter ≡ Ok None → is_some (opened_with false id body.calls.opens) ≡ true
refused_open base body id place parameter h =
    refused_with base body id place parameter (is_stopped base body) (opened_with false id body.calls.opens) (operation_of base (opened_with false id body.calls.opens)) (error_at base.tables place) h
