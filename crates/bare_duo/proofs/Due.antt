-- What an accepted call sends in bare mode, and that a refusal changes nothing.
use Rattle.std.proofs.Common.{◌≡◌, refl, true, false, ◌∙◌, sym, ap, subst, ℕ, nat_eq, eqb-true, List, [], ◌∷◌, ◌++◌, if◌then◌else◌}
use Rattle.std.specs.Prelude.{ℤ, Bool, not, ◌&&◌, Option, Some, None, Ok, Err, nat_le, length}
use Rattle.osi_base.specs.declared.layer_words.Problem.{Problem}
use Rattle.osi_base.specs.declared.layer_words.SetItem.{SetItem}
use Rattle.osi_base.specs.declared.syntax.Pair.{Pair}
use Rattle.osi_base.specs.declared.syntax.Syntax.TheVariants.{Ber}
use Rattle.osi_base.specs.Limits.{last_invocation, most_open}
use Rattle.asn1_types.specs.declared.value.Val.{Val}
use Rattle.stub_tables.specs.declared.tables.Tables.{Tables}
use Rattle.stub_tables.specs.declared.operation.Operation.{Operation}
use Rattle.stub_tables.specs.declared.operation.ErrorRow.{ErrorRow}
use Rattle.stub_tables.specs.declared.apdu.Apdu.{Apdu}
use Rattle.stub_tables.specs.declared.apdu.Apdu.TheVariants as apdus
use Rattle.stub_tables.specs.Codes.{is_silent, is_error_of}
use Rattle.stub_tables.specs.Uses.{is_carried}
use Rattle.stub_tables.specs.Lookup.{operation_at, error_at}
use Rattle.dialogue.specs.declared.config.Config.{Config}
use Rattle.dialogue.specs.declared.config.Mode.TheVariants.{Bare}
use Rattle.dialogue.specs.declared.call.Call.{Call}
use Rattle.dialogue.specs.declared.call.Call.TheVariants as the_calls
use Rattle.dialogue.specs.declared.call.CallRefusal.{CallRefusal}
use Rattle.dialogue.specs.declared.call.CallRefusal.TheVariants as refusals
use Rattle.end_rules.specs.Base.{Base, is_bare}
use Rattle.end_rules.specs.Sets.{is_deleted_in}
use Rattle.osi_base.specs.SetPlaces.{pair_of}
use Rattle.end_rules.specs.Messages.{Message, DataValue, Session, OfData, Values, Remote}
use Rattle.end_rules.specs.State.{Body, OpenCall, bare_set, opened_with, opens_of}
use Rattle.end_rules.specs.Invoking.{Reply, is_too_long, invoke_apdu, result_apdu, error_apdu, is_stopped, is_on_module, linking_refusal, link_refusal, is_linked_to, can_send_invoke, can_invoke_operation, unless_refused, carrier_in, can_send_outcome, lacks_carrier, is_queue_full, can_answer_open, can_refuse_open, operation_of, next_id}
use Rattle.end_rules.specs.Calling.{can_call, can_by_rows, is_dead, is_initiators, is_phase_for, is_of_bare_mode}
use Rattle.end_rules.specs.Hearing.{data_on}
use Rattle.end_rules.specs.Requesting.{due_of, due_invoke, due_outcome, result_for, error_for, operation_opened, after_refused, sent_at_once}
use Rattle.bare_end.specs.end_wire.Values.{bare_spellings}
use Rattle.agreement.specs.Sets.{Role}
use Rattle.agreement.specs.Worlds.{Sending}
use Rattle.agreement.specs.Messages.{Message as ModelMessage}
use Rattle.end_model.specs.OpenInvocations.{IsProper}
use Rattle.end_model.specs.Words.{IsOurs}
use Rattle.end_model.specs.BothEnds.{base_at, bare_common, AreComing}
use Rattle.end_model.proofs.Ladder.{passed, called}
use Rattle.end_model.proofs.InvokeRungs.{invokable, answerable, refusable}
use Rattle.bare_duo.proofs.Flights.{IsSent, AllSent}
use Rattle.bare_duo.proofs.Writable.{writable_ber}

-- data of one invocation or outcome that isn't too long
pub record IsPlain (base : Base) (held : List SetItem) (m : Message) : Type 0 where
  pub id : ℕ
  pub apdu : Apdu
  pub is_its : m ≡ Session (OfData (Values (record { id = id; pair = pair_of held id; content = Remote apdu } ∷ [])))
  pub short : is_too_long base apdu ≡ false
  pub no_reject : (i : Option ℤ) (problem : Problem) → apdu ≡ apdus.Reject i problem → ⊥

abbrev pub AllPlain : Base → List SetItem → List Message → Type 0
AllPlain base held [] = Unit {0}
AllPlain base held (m ∷ ms) = IsPlain base held m × AllPlain base held ms

plain : (base : Base) (body : Body) (id : ℕ) (apdu : Apdu) → is_too_long base apdu ≡ false → ((i : Option ℤ) (problem : Problem) → apdu ≡ apdus.Reject i problem → ⊥) → IsPlain base body.sets.held (data_on body id apdu)
plain base body id apdu short never = record { id = id; apdu = apdu; is_its = refl; short = short; no_reject = never }

on_carrier : (base : Base) (body : Body) (c : Option ℕ) (apdu : Apdu) → is_too_long base apdu ≡ false → ((i : Option ℤ) (problem : Problem) → apdu ≡ apdus.Reject i problem → ⊥) → AllPlain base body.sets.held (sent_at_once Bare body c apdu)
on_carrier base body None apdu short never = tt
on_carrier base body (Some id) apdu short never = (plain base body id apdu short never, tt)

module _ (t : Tables) (ca cb : Config) where
  abbrev at_role : Role → Base
  at_role role = base_at role (bare_common t (bare_spellings t) ca cb)

  due_invoked : (role : Role) (body : Body) (context place : ℕ) (argument : Option Val) (linked : Option ℤ) (answer : Option ℤ) → can_call (at_role role) body (the_calls.Invoke context place argument linked) ≡ Ok answer → AllPlain (at_role role) body.sets.held (due_of (at_role role) body (the_calls.Invoke context place argument linked) (Ok answer))
  due_invoked role body context place argument linked answer h =
      let base : Base = at_role role in
      let c = called base body (the_calls.Invoke context place argument linked) answer h in
      let s = passed (is_stopped base body) refusals.Waiting (can_invoke_operation base body context place (operation_at t place) argument linked) answer c.rows in
      let i = invokable base body context place (operation_at t place) argument linked answer s.later in
      let one : AllPlain base body.sets.held (due_invoke base body context (next_id body) linked (Some i.operation) argument) = (plain base body context (invoke_apdu i.operation (next_id body) linked argument) i.sends.short (λ k q e. cc), tt) in
      let known = subst (λ (o : Option Operation). AllPlain base body.sets.held (due_invoke base body context (next_id body) linked o argument)) (sym i.is_it) one in
      subst (λ (k : Option ℤ). AllPlain base body.sets.held (due_of base body (the_calls.Invoke context place argument linked) (Ok k))) (sym i.sends.next) known

  due_answered : (role : Role) (body : Body) (id : ℤ) (result : Option Val) (answer : Option ℤ) → can_call (at_role role) body (the_calls.Answer id result) ≡ Ok answer → AllPlain (at_role role) body.sets.held (due_of (at_role role) body (the_calls.Answer id result) (Ok answer))
  due_answered role body id result answer h =
      let base : Base = at_role role in
      let c = called base body (the_calls.Answer id result) answer h in
      let open_ = opened_with false id body.calls.opens in
      let s = passed (is_stopped base body) refusals.Waiting (can_answer_open base body id open_ (operation_of base open_) result) answer c.rows in
      let x = answerable base body id open_ (operation_of base open_) result answer s.later in
      let known : operation_opened base (Some x.invocation) ≡ Some x.operation = sym (ap (operation_of base) x.is_its) ∙ x.is_it in
      let one : AllPlain base body.sets.held (due_outcome base body (Some x.invocation) (Some (result_apdu x.operation id result))) = on_carrier base body (carrier_in base body x.invocation.context) (result_apdu x.operation id result) x.sends.short (λ k q e. cc) in
      let two = subst (λ (p : Option Operation). AllPlain base body.sets.held (due_outcome base body (Some x.invocation) (result_for id result p))) (sym known) one in
      subst (λ (o : Option OpenCall). AllPlain base body.sets.held (due_outcome base body o (result_for id result (operation_opened base o)))) (sym x.is_its) two

  due_refused : (role : Role) (body : Body) (id : ℤ) (place : ℕ) (parameter : Option Val) (answer : Option ℤ) → can_call (at_role role) body (the_calls.Refuse id place parameter) ≡ Ok answer → AllPlain (at_role role) body.sets.held (due_of (at_role role) body (the_calls.Refuse id place parameter) (Ok answer))
  due_refused role body id place parameter answer h =
      let base : Base = at_role role in
      let c = called base body (the_calls.Refuse id place parameter) answer h in
      let open_ = opened_with false id body.calls.opens in
      let s = passed (is_stopped base body) refusals.Waiting (can_refuse_open base body id open_ (operation_of base open_) place (error_at t place) parameter) answer c.rows in
      let x = refusable base body id open_ (operation_of base open_) place (error_at t place) parameter answer s.later in
      let one : AllPlain base body.sets.held (due_outcome base body (Some x.invocation) (Some (error_apdu x.error id parameter))) = on_carrier base body (carrier_in base body x.invocation.context) (error_apdu x.error id parameter) x.sends.short (λ k q e. cc) in
      let two = subst (λ (e : Option ErrorRow). AllPlain base body.sets.held (due_outcome base body (Some x.invocation) (error_for id parameter e))) (sym x.is_error) one in
      subst (λ (o : Option OpenCall). AllPlain base body.sets.held (due_outcome base body o (error_for id parameter (error_at t place)))) (sym x.is_its) two

  pub due_plain : (role : Role) (body : Body) (call : Call) (answer : Option ℤ) → can_call (at_role role) body call ≡ Ok answer → AllPlain (at_role role) body.sets.held (due_of (at_role role) body call (Ok answer))
  due_plain role body (the_calls.Invoke context place argument linked) answer h = due_invoked role body context place argument linked answer h
  due_plain role body (the_calls.Answer id result) answer h = due_answered role body id result answer h
  due_plain role body (the_calls.Refuse id place parameter) answer h = due_refused role body id place parameter answer h
  due_plain role body the_calls.Open answer h = let c = called (at_role role) body the_calls.Open answer h in let e = c.in_mode in cc
  due_plain role body (the_calls.Alter add delete) answer h = let c = called (at_role role) body (the_calls.Alter add delete) answer h in let e = c.in_mode in cc
  due_plain role body the_calls.Mark answer h = let c = called (at_role role) body the_calls.Mark answer h in let e = c.in_mode in cc
  due_plain role body the_calls.Give answer h = let c = called (at_role role) body the_calls.Give answer h in let e = c.in_mode in cc
  due_plain role body (the_calls.Please priority) answer h = let c = called (at_role role) body (the_calls.Please priority) answer h in let e = c.in_mode in cc
  due_plain role body (the_calls.Resync n) answer h = let c = called (at_role role) body (the_calls.Resync n) answer h in let e = c.in_mode in cc
  due_plain role body the_calls.Interrupt answer h = let c = called (at_role role) body the_calls.Interrupt answer h in let e = c.in_mode in cc
  due_plain role body the_calls.Resume answer h = let c = called (at_role role) body the_calls.Resume answer h in let e = c.in_mode in cc
  due_plain role body the_calls.Discard answer h = let c = called (at_role role) body the_calls.Discard answer h in let e = c.in_mode in cc
  due_plain role body the_calls.Recover answer h = let c = called (at_role role) body the_calls.Recover answer h in let e = c.in_mode in cc
  due_plain role body the_calls.Release answer h = let c = called (at_role role) body the_calls.Release answer h in let e = c.in_mode in cc
  due_plain role body the_calls.Abort answer h = let c = called (at_role role) body the_calls.Abort answer h in let e = c.in_mode in cc

  -- ---- what is plain and ours is sent

  value_of : Message → Option DataValue
  value_of (Session (OfData (Values (v ∷ [])))) = Some v
  value_of _ = None

  some_is : (v w : DataValue) → Some v ≡ Some w → v ≡ w
  some_is v w e = cc

  remote_is : (a b : Apdu) → Remote a ≡ Remote b → a ≡ b
  remote_is a b e = cc

  zero_only : (id : ℕ) (pair : Pair) → pair_of (bare_set t) id ≡ Some pair → 0 ≡ id
  zero_only id pair h = go (nat_eq 0 id) refl h
    where
      go : (b : Bool) → nat_eq 0 id ≡ b → (if b then Some (record { abstract_name = t.name_oid; transfer = Ber }) else None) ≡ Some pair → 0 ≡ id
      go true e h = eqb-true 0 id e
      go false e h = cc

  same_value : (v w : DataValue) → Session (OfData (Values (v ∷ []))) ≡ Session (OfData (Values (w ∷ []))) → v ≡ w
  same_value v w e = cc

  sent_of : (role : Role) (held : List SetItem) (m : Message) (meant : ModelMessage) → held ≡ bare_set t → IsPlain (at_role role) held m → IsOurs (at_role role) m meant → IsSent t m
  sent_of role held m meant bare p o =
      let mine : DataValue = record { id = p.id; pair = pair_of held p.id; content = Remote p.apdu } in
      let its : DataValue = record { id = o.item.id; pair = Some o.item.pair; content = Remote o.item.apdu } in
      let same : mine ≡ its = same_value mine its (sym p.is_its ∙ o.is_data) in
      let apdu : p.apdu ≡ o.item.apdu = remote_is p.apdu o.item.apdu (ap (λ (v : DataValue). v.content) same) in
      let id : p.id ≡ o.item.id = ap (λ (v : DataValue). v.id) same in
      let pair : pair_of held p.id ≡ Some o.item.pair = ap (λ (v : DataValue). v.pair) same in
      let zero : 0 ≡ p.id = zero_only p.id o.item.pair (ap (λ (h : List SetItem). pair_of h p.id) (sym bare) ∙ pair) in
      let proper : IsProper (at_role role) p.apdu = subst (λ (a : Apdu). IsProper (at_role role) a) (sym apdu) o.is_proper in
      record {
        apdu = p.apdu;
        is_its = p.is_its ∙ ap (λ (h : List SetItem). Session (OfData (Values (record { id = p.id; pair = pair_of h p.id; content = Remote p.apdu } ∷ [])))) bare
            ∙ ap (λ (n : ℕ). Session (OfData (Values (record { id = n; pair = pair_of (bare_set t) n; content = Remote p.apdu } ∷ [])))) (sym zero);
        writable = writable_ber t (at_role role) p.apdu refl refl p.no_reject proper p.short;
        no_reject = p.no_reject;
      }

  -- the last of those that come
  pub all_sent : (role : Role) (held : List SetItem) (before due : List Message) (flight : List Sending) → held ≡ bare_set t → AllPlain (at_role role) held due → AreComing (at_role role) (before ++ due) flight → AllSent t due
  all_sent role held [] [] flight bare p c = tt
  all_sent role held [] (m ∷ due) [] bare p c = absurd c
  all_sent role held [] (m ∷ due) (s ∷ ss) bare p c = (sent_of role held m s.message bare p.0 c.0, all_sent role held [] due ss bare p.1 c.1)
  all_sent role held (b ∷ before) due [] bare p c = absurd c
  all_sent role held (b ∷ before) due (s ∷ ss) bare p c = all_sent role held before due ss bare p c.1

  -- ---- a refusal isn't for want of memory

  abbrev err : CallRefusal → Reply
  err refusal = Err refusal

  abbrev okay : Option ℤ → Reply
  okay answer = Ok answer

  err_is : (x y : CallRefusal) → err x ≡ err y → x ≡ y
  err_is x y e = cc

  some_refusal : (x y : CallRefusal) → Some x ≡ Some y → x ≡ y
  some_refusal x y e = cc

  skip : (b : Bool) (refusal : CallRefusal) (r : Reply) → (refusal ≡ refusals.NoMemory → ⊥) → (r ≡ err refusals.NoMemory → ⊥) → (if b then err refusal else r) ≡ err refusals.NoMemory → ⊥
  skip true refusal r p q h = p (err_is refusal refusals.NoMemory h)
  skip false refusal r p q h = q h

  okay_not : (answer : Option ℤ) → okay answer ≡ err refusals.NoMemory → ⊥
  okay_not answer e = cc

  outcome_not : (base : Base) (body : Body) (o : OpenCall) (apdu : Apdu) → can_send_outcome base body o apdu ≡ err refusals.NoMemory → ⊥
  outcome_not base body o apdu =
      skip (lacks_carrier base body o.context) refusals.NoContext _ (λ e. cc)
      (skip (is_too_long base apdu) refusals.TooLong _ (λ e. cc) (skip (is_queue_full base body) refusals.QueueFull (okay None) (λ e. cc) (okay_not None)))

  answer_not : (base : Base) (body : Body) (id : ℤ) (o : Option OpenCall) (p : Option Operation) (result : Option Val) → can_answer_open base body id o p result ≡ err refusals.NoMemory → ⊥
  answer_not base body id None p result h = cc
  answer_not base body id (Some o) None result h = cc
  answer_not base body id (Some o) (Some operation) result h =
      skip (not operation.returns) refusals.NotAllowed _ (λ e. cc)
      (skip (not (is_carried base.tables.types operation.result result)) refusals.NotTyped _ (λ e. cc) (outcome_not base body o (result_apdu operation id result))) h

  refuse_not : (base : Base) (body : Body) (id : ℤ) (o : Option OpenCall) (p : Option Operation) (place : ℕ) (e : Option ErrorRow) (parameter : Option Val) → can_refuse_open base body id o p place e parameter ≡ err refusals.NoMemory → ⊥
  refuse_not base body id None p place e parameter h = cc
  refuse_not base body id (Some o) None place e parameter h = cc
  refuse_not base body id (Some o) (Some operation) place None parameter h = cc
  refuse_not base body id (Some o) (Some operation) place (Some error) parameter h =
      skip (not (is_error_of operation place)) refusals.NotAllowed _ (λ e. cc)
      (skip (not (is_carried base.tables.types error.parameter parameter)) refusals.NotTyped _ (λ e. cc) (outcome_not base body o (error_apdu error id parameter))) h

  link_not : (base : Base) (place : ℕ) (linked : ℤ) (o : Option OpenCall) → link_refusal base place linked o ≡ Some refusals.NoMemory → ⊥
  link_not base place linked None h = let k = some_refusal (refusals.ParentClosed linked) refusals.NoMemory h in cc
  link_not base place linked (Some parent) h = go (is_linked_to (operation_at base.tables parent.operation) place) h
    where
      go : (b : Bool) → (if b then None else Some (refusals.LinkNotAllowed linked)) ≡ Some refusals.NoMemory → ⊥
      go true h = cc
      go false h = let k = some_refusal (refusals.LinkNotAllowed linked) refusals.NoMemory h in cc

  linking_not : (base : Base) (body : Body) (place : ℕ) (linked : Option ℤ) → linking_refusal base body place linked ≡ Some refusals.NoMemory → ⊥
  linking_not base body place None h = cc
  linking_not base body place (Some linked) h = link_not base place linked (opened_with false linked body.calls.opens) h

  unless_not : (o : Option CallRefusal) (r : Reply) → (o ≡ Some refusals.NoMemory → ⊥) → (r ≡ err refusals.NoMemory → ⊥) → unless_refused o r ≡ err refusals.NoMemory → ⊥
  unless_not None r n q h = q h
  unless_not (Some refusal) r n q h = n (ap (λ (x : CallRefusal). Some x) (err_is refusal refusals.NoMemory h))

  invoke_not : (base : Base) (body : Body) (context place : ℕ) (o : Option Operation) (argument : Option Val) (linked : Option ℤ) → can_invoke_operation base body context place o argument linked ≡ err refusals.NoMemory → ⊥
  invoke_not base body context place None argument linked h = cc
  invoke_not base body context place (Some operation) argument linked h =
      skip (not (is_on_module base body context)) (refusals.Absent context) _ (λ e. cc)
      (skip (is_deleted_in body.sets.own context) refusals.AlterPending _ (λ e. cc)
      (unless_not (linking_refusal base body place linked) (can_send_invoke base body operation argument linked) (linking_not base body place linked)
      (skip (not (is_carried base.tables.types operation.argument argument)) refusals.NotTyped _ (λ e. cc)
      (skip (is_too_long base (invoke_apdu operation (next_id body) linked argument)) refusals.TooLong _ (λ e. cc)
      (skip (not (is_silent operation) && nat_le most_open (length (opens_of true body.calls.opens))) refusals.TooManyOpen _ (λ e. cc)
      (skip (nat_le last_invocation body.calls.made) refusals.NumbersSpent _ (λ e. cc)
      (skip (is_queue_full base body) refusals.QueueFull (okay (Some (next_id body))) (λ e. cc) (okay_not (Some (next_id body)))))))))) h

  abbrev of_mode : Role → Body → Call → Reply
  of_mode role body call = if is_bare (at_role role).mode && not (is_of_bare_mode call) then err refusals.NotNegotiated else can_by_rows (at_role role) body call

  mode_not : (role : Role) (body : Body) (call : Call) → of_mode role body call ≡ err refusals.NoMemory → ⊥
  mode_not role body (the_calls.Invoke context place argument linked) h =
      skip (is_stopped (at_role role) body) refusals.Waiting _ (λ e. cc) (invoke_not (at_role role) body context place (operation_at t place) argument linked) h
  mode_not role body (the_calls.Answer id result) h =
      skip (is_stopped (at_role role) body) refusals.Waiting _ (λ e. cc) (answer_not (at_role role) body id (opened_with false id body.calls.opens) (operation_of (at_role role) (opened_with false id body.calls.opens)) result) h
  mode_not role body (the_calls.Refuse id place parameter) h =
      skip (is_stopped (at_role role) body) refusals.Waiting _ (λ e. cc) (refuse_not (at_role role) body id (opened_with false id body.calls.opens) (operation_of (at_role role) (opened_with false id body.calls.opens)) place (error_at t place) parameter) h
  mode_not role body _ h = let k = err_is refusals.NotNegotiated refusals.NoMemory h in cc

  memory_not : (role : Role) (body : Body) (call : Call) → can_call (at_role role) body call ≡ err refusals.NoMemory → ⊥
  memory_not role body call =
      skip (is_dead body.link.phase) refusals.Dead _ (λ e. cc)
      (skip (is_initiators call && not (at_role role).initiator) refusals.NotInitiator _ (λ e. cc)
      (skip (not (is_phase_for call body.link.phase)) (refusals.WrongPhase body.link.phase) (of_mode role body call) (λ e. cc) (mode_not role body call)))

  still : (body : Body) (refusal : CallRefusal) → (refusal ≡ refusals.NoMemory → ⊥) → after_refused body refusal ≡ body
  still body refusals.NoMemory n = absurd (n refl)
  still body _ n = refl

  -- a refused call leaves the body as it was
  pub refused_still : (role : Role) (body : Body) (call : Call) (refusal : CallRefusal) → can_call (at_role role) body call ≡ err refusal → after_refused body refusal ≡ body
  refused_still role body call refusal h = still body refusal (λ e. memory_not role body call (h ∙ ap err e))
