-- A call that was checked got the answer that can be given.
use Rattle.std.proofs.Common.{◌≡◌, ℕ, suc, ℤ, Bool, true, false, not, ◌&&◌, if◌then◌else◌, List, ◌∷◌, map, Option, Some, None, Result, Ok, Err, nat_le, length, refl, sym, ap, subst, ◌∙◌}
use Rattle.std.specs.Prelude.{MatchBool, IfOk}
use Rattle.osi_base.specs.declared.fault.NoMemory.{NoMemory}
use Rattle.asn1_types.specs.declared.value.Val.{Val}
use Rattle.osi_base.specs.declared.syntax.Syntax.TheVariants.{Ber}
use Rattle.stub_tables.specs.declared.operation.Operation.{Operation}
use Rattle.stub_tables.specs.declared.operation.ErrorRow.{ErrorRow}
use Rattle.stub_tables.specs.Codes.{is_error_of, is_silent}
use Rattle.stub_tables.specs.Uses.{is_carried}
use Rattle.stub_tables.specs.declared.apdu.Apdu.{Apdu}
use Rattle.stub_tables.specs.Lookup.{operation_at, error_at}
use Rattle.apdu_spelling.specs.Writing.{written_apdu}
use Rattle.dialogue.specs.declared.call.Call.{Call}
use Rattle.dialogue.specs.declared.call.Call.TheVariants as the_calls
use Rattle.dialogue.specs.declared.call.CallRefusal.{CallRefusal}
use Rattle.dialogue.specs.declared.call.CallRefusal.TheVariants as refusals
use Rattle.end_rules.specs.State.{Body, OpenCall, opened_with, opens_of, close}
use Rattle.end_rules.specs.Invoking.{Reply, is_too_long, can_send_outcome, next_id, is_on_module, linking_refusal, unless_refused, operation_of, invoke_apdu, result_apdu, error_apdu, can_send_invoke, can_invoke, can_invoke_operation, can_answer, can_answer_open, can_refuse, can_refuse_open, can_refuse_with, is_memory}
use Rattle.dialogue.specs.declared.config.Phase.TheVariants.{Dead}
use Rattle.end_rules.specs.Calling.{can_call, can_by_rows, is_dead, is_initiators, is_phase_for, is_of_bare_mode}
use Rattle.end_rules.specs.Hearing.{with_opened}
use Rattle.end_rules.specs.Requesting.{due_of, after_refused}
use Rattle.end_rules.specs.History.{called, sent}
use Rattle.bare_end.specs.declared.sending.Checked as checkeds
use Rattle.bare_end.specs.declared.sending.Checked.TheVariants as checked
use Rattle.bare_end.specs.Checking.{IsChecked, IsNumbered, HasRoom}
use Rattle.bare_end.specs.View.{EndView, base, body, seen, Stepped, AnswersCall, Answered, Died, Keeps, with_calls, with_waiting}
use Rattle.bare_end.proofs.Sent.{invoked, answered, refused}

-- ---- a refusal changes nothing

still : (b : Body) (r : CallRefusal) → is_memory (Err r) ≡ false → b ≡ after_refused b r
still b refusals.NoMemory m = absurd cc
still b _ m = refl

pub refused_so : (can : Reply) (e : EndView) (call : Call) (r : CallRefusal) → can ≡ Err r → is_memory (Err r) ≡ false → AnswersCall can e e call (Err r)
refused_so can e call r h m =
    subst (λ (b : Bool). MatchBool b (Keeps e e) (Answered can e e call (Err r))) (sym m)
    (record {
      reply_is = sym h;
      steps = record { tables = refl; config = refl; end = ap (λ (b : Body). record (seen e) { body = b }) (still (body e) r m) };
    })

pub answered_so : (can : Reply) (e new : EndView) (call : Call) (answer : Option ℤ) → can ≡ Ok answer → Stepped e new (called call (Ok answer) ∷ map sent (due_of (base e) (body e) call (Ok answer)))
    → AnswersCall can e new call (Ok answer)
answered_so can e new call answer h s = record { reply_is = sym h; steps = s }

-- ---- outcomes

-- the open invocation and its operation
pub record Opened (e : EndView) (id : ℤ) (operation : Operation) : Type 0 where
  pub o : OpenCall
  pub found : opened_with false id e.calls.opens ≡ Some o
  pub there : operation_at e.tables o.operation ≡ Some operation

opened_by : (e : EndView) (id : ℤ) (operation : Operation) (f : Option OpenCall) → opened_with false id e.calls.opens ≡ f → operation_of (base e) f ≡ Some operation → Opened e id operation
opened_by e id operation None is there = absurd cc
opened_by e id operation (Some o) is there = record { o = o; found = is; there = there }

pub opened_so : (e : EndView) (id : ℤ) (operation : Operation) → operation_of (base e) (opened_with false id e.calls.opens) ≡ Some operation → Opened e id operation
opened_so e id operation there = opened_by e id operation (opened_with false id e.calls.opens) refl there

module _ (e : EndView) (id : ℤ) (value : Option Val) (operation : Operation) (there : operation_of (base e) (opened_with false id e.calls.opens) ≡ Some operation) where
  abbrev result_text : List ℕ
  result_text = written_apdu e.tables Ber (result_apdu operation id value)

  abbrev CheckedSo : checkeds.Checked → Type 0
  CheckedSo k = (o : OpenCall) → IsChecked (can_answer_open (base e) (body e) id (Some o) (Some operation) value) None result_text k

  can_is : (o : OpenCall) → opened_with false id e.calls.opens ≡ Some o → can_answer (base e) (body e) id value ≡ can_answer_open (base e) (body e) id (Some o) (Some operation) value
  can_is o found = λ k. can_answer_open (base e) (body e) id (found k) (there k) value

  pub answer_refused : (k : checkeds.Checked) (r : CallRefusal) → CheckedSo k → k ≡ checked.Refused r → AnswersCall (can_answer (base e) (body e) id value) e e (the_calls.Answer id value) (Err r)
  answer_refused k r c is =
      let o = opened_so e id operation there in
      let h = subst (IsChecked (can_answer_open (base e) (body e) id (Some o.o) (Some operation) value) None result_text) is (c o.o) in
      refused_so (can_answer (base e) (body e) id value) e (the_calls.Answer id value) r (can_is o.o o.found ∙ h.0) h.1

  pub answer_sent : (k : checkeds.Checked) (octets : List ℕ) (new : EndView) → CheckedSo k → k ≡ checked.Sends octets → new ≡ with_waiting octets (with_calls (close false id e.calls) e)
      → AnswersCall (can_answer (base e) (body e) id value) e new (the_calls.Answer id value) (Ok None)
  answer_sent k octets new c is at =
      let o = opened_so e id operation there in
      let h = subst (IsChecked (can_answer_open (base e) (body e) id (Some o.o) (Some operation) value) None result_text) is (c o.o) in
      answered_so (can_answer (base e) (body e) id value) e new (the_calls.Answer id value) None (can_is o.o o.found ∙ h.0)
      (answered e new id value o.o operation o.found o.there (at ∙ ap (λ (t : List ℕ). with_waiting t (with_calls (close false id e.calls) e)) h.1))

module _ (e : EndView) (id : ℤ) (place : ℕ) (parameter : Option Val) (error : ErrorRow) (there : error_at e.tables place ≡ Some error) (o : OpenCall) (found : opened_with false id e.calls.opens ≡ Some o) where
  abbrev error_text : List ℕ
  error_text = written_apdu e.tables Ber (error_apdu error id parameter)

  abbrev RefusedSo : checkeds.Checked → Type 0
  RefusedSo k = (q : OpenCall) → IsChecked (can_refuse_with (base e) (body e) id q error parameter) None error_text k

  pub refuse_refused : (k : checkeds.Checked) (r : CallRefusal) → RefusedSo k → k ≡ checked.Refused r → AnswersCall (can_refuse_with (base e) (body e) id o error parameter) e e (the_calls.Refuse id place parameter) (Err r)
  refuse_refused k r c is =
      let h = subst (IsChecked (can_refuse_with (base e) (body e) id o error parameter) None error_text) is (c o) in
      refused_so (can_refuse_with (base e) (body e) id o error parameter) e (the_calls.Refuse id place parameter) r h.0 h.1

  pub refuse_sent : (k : checkeds.Checked) (octets : List ℕ) (new : EndView) → RefusedSo k → k ≡ checked.Sends octets → new ≡ with_waiting octets (with_calls (close false id e.calls) e)
      → AnswersCall (can_refuse_with (base e) (body e) id o error parameter) e new (the_calls.Refuse id place parameter) (Ok None)
  refuse_sent k octets new c is at =
      let h = subst (IsChecked (can_refuse_with (base e) (body e) id o error parameter) None error_text) is (c o) in
      answered_so (can_refuse_with (base e) (body e) id o error parameter) e new (the_calls.Refuse id place parameter) None h.0
      (refused e new id place parameter o error found there (at ∙ ap (λ (t : List ℕ). with_waiting t (with_calls (close false id e.calls) e)) h.1))

-- ---- invocations

module _ (e : EndView) (context place : ℕ) (linked : Option ℤ) (argument : Option Val) (operation : Operation) (there : operation_at e.tables place ≡ Some operation) where
  abbrev can_send : Reply
  can_send = can_send_invoke (base e) (body e) operation argument linked

  abbrev own_id : ℤ
  own_id = next_id (body e)

  abbrev invoke_text : List ℕ
  invoke_text = written_apdu e.tables Ber (invoke_apdu operation own_id linked argument)

  abbrev invoke_call : Call
  invoke_call = the_calls.Invoke context place argument linked

  abbrev begun : EndView
  begun = with_calls (with_opened (base e) (record { own = true; id = own_id; operation = place; context = context; parent = linked }) (record e.calls { made = suc e.calls.made })) e

  pub invoke_refused : (k : checkeds.Checked) (r : CallRefusal) → IsChecked can_send (Some own_id) invoke_text k → k ≡ checked.Refused r → AnswersCall can_send e e invoke_call (Err r)
  invoke_refused k r c is =
      let h = subst (IsChecked can_send (Some own_id) invoke_text) is c in
      refused_so can_send e invoke_call r h.0 h.1

  pub invoke_sent : (k : checkeds.Checked) (octets : List ℕ) (new : EndView) (x : ℤ) → IsChecked can_send (Some own_id) invoke_text k → k ≡ checked.Sends octets → new ≡ with_waiting octets begun → x ≡ own_id
      → AnswersCall can_send e new invoke_call (Ok (Some x))
  invoke_sent k octets new x c is at same =
      let h = subst (IsChecked can_send (Some own_id) invoke_text) is c in
      subst (λ (y : ℤ). AnswersCall can_send e new invoke_call (Ok (Some y))) (sym same)
      (answered_so can_send e new invoke_call (Some own_id) h.0
      (invoked e context place own_id linked operation argument there new (at ∙ ap (λ (t : List ℕ). with_waiting t begun) h.1)))

  -- what was asked before doesn't refuse it
  pub invoke_allowed : is_on_module (base e) (body e) context ≡ true → linking_refusal (base e) (body e) place linked ≡ None → can_invoke (base e) (body e) context place argument linked ≡ can_send
  invoke_allowed on none =
      ap (λ (q : Option Operation). can_invoke_operation (base e) (body e) context place q argument linked) there
      ∙ ap (λ (b : Bool). if not b then Err (refusals.Absent context) else unless_refused (linking_refusal (base e) (body e) place linked) can_send) on
      ∙ ap (λ (r : Option CallRefusal). unless_refused r can_send) none

  pub invoke_absent : is_on_module (base e) (body e) context ≡ false → can_invoke (base e) (body e) context place argument linked ≡ Err (refusals.Absent context)
  invoke_absent off =
      ap (λ (q : Option Operation). can_invoke_operation (base e) (body e) context place q argument linked) there
      ∙ ap (λ (b : Bool). if not b then Err (refusals.Absent context) else unless_refused (linking_refusal (base e) (body e) place linked) can_send) off

  pub invoke_unlinked : (r : CallRefusal) → is_on_module (base e) (body e) context ≡ true → linking_refusal (base e) (body e) place linked ≡ Some r
      → can_invoke (base e) (body e) context place argument linked ≡ Err r
  invoke_unlinked r on some =
      ap (λ (q : Option Operation). can_invoke_operation (base e) (body e) context place q argument linked) there
      ∙ ap (λ (b : Bool). if not b then Err (refusals.Absent context) else unless_refused (linking_refusal (base e) (body e) place linked) can_send) on
      ∙ ap (λ (q : Option CallRefusal). unless_refused q can_send) some

pub invoke_unknown : (e : EndView) (context place : ℕ) (argument : Option Val) (linked : Option ℤ) → operation_at e.tables place ≡ None → can_invoke (base e) (body e) context place argument linked ≡ Err refusals.UnknownOperation
invoke_unknown e context place argument linked none = ap (λ (q : Option Operation). can_invoke_operation (base e) (body e) context place q argument linked) none

-- a call by another row that refuses nothing
pub answers_by : (can_now can_before : Reply) (e new : EndView) (call : Call) (reply : Reply) → can_before ≡ can_now → AnswersCall can_now e new call reply → AnswersCall can_before e new call reply
answers_by can_now can_before e new call reply same h = subst (λ (can : Reply). AnswersCall can e new call reply) (sym same) h

-- ---- the outcome of an error by its first rows

module _ (e : EndView) (id : ℤ) (place : ℕ) (parameter : Option Val) where
  abbrev can_error : Reply
  can_error = can_refuse (base e) (body e) id place parameter

  refusing : (f : Option OpenCall) (q : Option Operation) (r : Option ErrorRow) → opened_with false id e.calls.opens ≡ f → operation_of (base e) (opened_with false id e.calls.opens) ≡ q → error_at e.tables place ≡ r
      → can_error ≡ can_refuse_open (base e) (body e) id f q place r parameter
  refusing f q r is there error = λ k. can_refuse_open (base e) (body e) id (is k) (there k) place (error k) parameter

  none_opened : (f : Option OpenCall) → opened_with false id e.calls.opens ≡ f → operation_of (base e) (opened_with false id e.calls.opens) ≡ None → can_error ≡ Err (refusals.NoInvocation id)
  none_opened None is none = refusing None None (error_at e.tables place) is none refl
  none_opened (Some o) is none = refusing (Some o) None (error_at e.tables place) is none refl

  pub refuse_none : operation_of (base e) (opened_with false id e.calls.opens) ≡ None → can_error ≡ Err (refusals.NoInvocation id)
  refuse_none none = none_opened (opened_with false id e.calls.opens) refl none

  module _ (operation : Operation) (there : operation_of (base e) (opened_with false id e.calls.opens) ≡ Some operation) where
    pub refuse_unknown : error_at e.tables place ≡ None → can_error ≡ Err refusals.UnknownError
    refuse_unknown none = let o = opened_so e id operation there in refusing (Some o.o) (Some operation) None o.found there none

    pub refuse_foreign : (error : ErrorRow) → error_at e.tables place ≡ Some error → is_error_of operation place ≡ false → can_error ≡ Err refusals.NotAllowed
    refuse_foreign error some foreign =
        let o = opened_so e id operation there in
        refusing (Some o.o) (Some operation) (Some error) o.found there some
        ∙ ap (λ (b : Bool). if not b then Err refusals.NotAllowed else can_refuse_with (base e) (body e) id o.o error parameter) foreign

    pub refuse_own : (error : ErrorRow) → error_at e.tables place ≡ Some error → is_error_of operation place ≡ true → can_error ≡ can_refuse_with (base e) (body e) id (opened_so e id operation there).o error parameter
    refuse_own error some own =
        let o = opened_so e id operation there in
        refusing (Some o.o) (Some operation) (Some error) o.found there some
        ∙ ap (λ (b : Bool). if not b then Err refusals.NotAllowed else can_refuse_with (base e) (body e) id o.o error parameter) own

pub answer_none : (e : EndView) (id : ℤ) (value : Option Val) → operation_of (base e) (opened_with false id e.calls.opens) ≡ None → can_answer (base e) (body e) id value ≡ Err (refusals.NoInvocation id)
answer_none e id value none = by (opened_with false id e.calls.opens) refl
  where
    by : (f : Option OpenCall) → opened_with false id e.calls.opens ≡ f → can_answer (base e) (body e) id value ≡ Err (refusals.NoInvocation id)
    by None is = λ k. can_answer_open (base e) (body e) id (is k) (none k) value
    by (Some o) is = λ k. can_answer_open (base e) (body e) id (is k) (none k) value

-- ---- the rows of all calls

module _ (e : EndView) where
  abbrev by_rows : Call → Reply
  by_rows k = if not (is_of_bare_mode k) then Err refusals.NotNegotiated else can_by_rows (base e) (body e) k

  abbrev by_phase : Call → Reply
  by_phase k = if not (is_phase_for k e.phase) then Err (refusals.WrongPhase e.phase) else by_rows k

  abbrev by_side : Call → Reply
  by_side k = if is_initiators k && not e.config.initiator then Err refusals.NotInitiator else by_phase k

  pub can_dead : (k : Call) → is_dead e.phase ≡ true → can_call (base e) (body e) k ≡ Err refusals.Dead
  can_dead k dead = ap (λ (b : Bool). if b then Err refusals.Dead else by_side k) dead

  pub can_not : (k : Call) → is_dead e.phase ≡ false → (is_initiators k && not e.config.initiator) ≡ true → can_call (base e) (body e) k ≡ Err refusals.NotInitiator
  can_not k alive other = ap (λ (b : Bool). if b then Err refusals.Dead else by_side k) alive ∙ ap (λ (b : Bool). if b then Err refusals.NotInitiator else by_phase k) other

  pub can_wrong : (k : Call) → is_dead e.phase ≡ false → (is_initiators k && not e.config.initiator) ≡ false → is_phase_for k e.phase ≡ false → can_call (base e) (body e) k ≡ Err (refusals.WrongPhase e.phase)
  can_wrong k alive mine wrong =
      ap (λ (b : Bool). if b then Err refusals.Dead else by_side k) alive ∙ ap (λ (b : Bool). if b then Err refusals.NotInitiator else by_phase k) mine
      ∙ ap (λ (b : Bool). if not b then Err (refusals.WrongPhase e.phase) else by_rows k) wrong

  pub can_rows : (k : Call) → is_dead e.phase ≡ false → (is_initiators k && not e.config.initiator) ≡ false → is_phase_for k e.phase ≡ true → can_call (base e) (body e) k ≡ by_rows k
  can_rows k alive mine right =
      ap (λ (b : Bool). if b then Err refusals.Dead else by_side k) alive ∙ ap (λ (b : Bool). if b then Err refusals.NotInitiator else by_phase k) mine
      ∙ ap (λ (b : Bool). if not b then Err (refusals.WrongPhase e.phase) else by_rows k) right

  -- a call by its row
  pub by_row : (new : EndView) (call k : Call) (can_now : Reply) (reply : Reply) → is_dead e.phase ≡ false → (is_initiators call && not e.config.initiator) ≡ false → is_phase_for call e.phase ≡ true
      → call ≡ k → by_rows k ≡ can_now → AnswersCall can_now e new k reply → AnswersCall (can_call (base e) (body e) call) e new call reply
  by_row new call k can_now reply alive mine right is rows h =
      subst (λ (x : Call). AnswersCall (can_call (base e) (body e) call) e new x reply) (sym is)
      (subst (λ (can : Reply). AnswersCall can e new k reply) (sym (can_rows call alive mine right ∙ ap by_rows is ∙ rows)) h)

  -- one of another mode
  pub by_no_row : (call : Call) → is_dead e.phase ≡ false → (is_initiators call && not e.config.initiator) ≡ false → is_phase_for call e.phase ≡ true → is_of_bare_mode call ≡ false
      → AnswersCall (can_call (base e) (body e) call) e e call (Err refusals.NotNegotiated)
  by_no_row call alive mine right other =
      refused_so (can_call (base e) (body e) call) e call refusals.NotNegotiated
      (can_rows call alive mine right ∙ ap (λ (b : Bool). if not b then Err refusals.NotNegotiated else can_by_rows (base e) (body e) call) other) refl

-- ---- want of memory

pub died_so : (can : Reply) (old now new : EndView) (call : Call) (reply : Reply) → is_memory reply ≡ true → AnswersCall can old now call reply → new ≡ record now { phase = Dead }
    → MatchBool (is_memory reply) (Died old new) (Answered can old new call reply)
died_so can old now new call reply m h is =
    let k = subst (λ (b : Bool). MatchBool b (Keeps old now) (Answered can old now call reply)) m h in
    subst (λ (b : Bool). MatchBool b (Died old new) (Answered can old new call reply)) (sym m)
    (record {
      tables = ap (λ (x : EndView). x.tables) is ∙ k.tables;
      config = ap (λ (x : EndView). x.config) is ∙ k.config;
      phase = ap (λ (x : EndView). x.phase) is;
      waiting = ap (λ (x : EndView). x.waiting) is ∙ k.waiting;
    })

pub lived_so : (can : Reply) (old new : EndView) (call : Call) (reply : Reply) → is_memory reply ≡ false → AnswersCall can old new call reply → MatchBool (is_memory reply) (Died old new) (Answered can old new call reply)
lived_so can old new call reply m h =
    let k = subst (λ (b : Bool). MatchBool b (Keeps old new) (Answered can old new call reply)) m h in
    subst (λ (b : Bool). MatchBool b (Died old new) (Answered can old new call reply)) (sym m) k

-- ---- texts that were checked

module _ (e : EndView) (id : ℤ) (apdu : Apdu) (r : Result checkeds.Checked NoMemory)
    (c : IfOk r (λ k. (o : OpenCall) → IsChecked (can_send_outcome (base e) (body e) o apdu) None (written_apdu e.tables Ber apdu) k)) where
  pub outcome_checked : (is : Apdu) (can : OpenCall → Reply) → apdu ≡ is → ((o : OpenCall) → can o ≡ can_send_outcome (base e) (body e) o is) → IfOk r (λ k. (o : OpenCall) → IsChecked (can o) None (written_apdu e.tables Ber is) k)
  outcome_checked is can same row = by r c
    where
      by : (r : Result checkeds.Checked NoMemory) → IfOk r (λ k. (o : OpenCall) → IsChecked (can_send_outcome (base e) (body e) o apdu) None (written_apdu e.tables Ber apdu) k)
          → IfOk r (λ k. (o : OpenCall) → IsChecked (can o) None (written_apdu e.tables Ber is) k)
      by (Ok k) c = λ o.
          subst (λ (q : Reply). IsChecked q None (written_apdu e.tables Ber is) k) (sym (row o))
          (subst (λ (a : Apdu). IsChecked (can_send_outcome (base e) (body e) o a) None (written_apdu e.tables Ber a) k) same (c o))
      by (Err m) c = tt

pub answer_row : (e : EndView) (id : ℤ) (operation : Operation) (value : Option Val) (o : OpenCall) → operation.returns ≡ true → is_carried e.tables.types operation.result value ≡ true
    → can_answer_open (base e) (body e) id (Some o) (Some operation) value ≡ can_send_outcome (base e) (body e) o (result_apdu operation id value)
answer_row e id operation value o returns carried =
    ap
    (λ (b : Bool). if not b then Err refusals.NotAllowed else (if not (is_carried e.tables.types operation.result value) then Err refusals.NotTyped else can_send_outcome (base e) (body e) o (result_apdu operation id value)))
    returns
    ∙ ap (λ (b : Bool). if not b then Err refusals.NotTyped else can_send_outcome (base e) (body e) o (result_apdu operation id value)) carried

pub refuse_row : (e : EndView) (id : ℤ) (error : ErrorRow) (parameter : Option Val) (o : OpenCall) → is_carried e.tables.types error.parameter parameter ≡ true
    → can_refuse_with (base e) (body e) id o error parameter ≡ can_send_outcome (base e) (body e) o (error_apdu error id parameter)
refuse_row e id error parameter o carried = ap (λ (b : Bool). if not b then Err refusals.NotTyped else can_send_outcome (base e) (body e) o (error_apdu error id parameter)) carried

-- an invocation for which there is no room or no number
pub invoke_full : (e : EndView) (operation : Operation) (argument : Option Val) (linked : Option ℤ) (apdu : Apdu) (found : Option CallRefusal) (r : CallRefusal) → is_carried e.tables.types operation.argument argument ≡ true
    → apdu ≡ invoke_apdu operation (next_id (body e)) linked argument → is_too_long (base e) apdu ≡ false
    → ((go : Reply) → IsNumbered e.calls operation found (if not (is_silent operation) && nat_le 4096 (length (opens_of true e.calls.opens)) then Err refusals.TooManyOpen else (if nat_le 2147483647 e.calls.made then Err refusals.NumbersSpent else go)) go)
    → found ≡ Some r → (can_send_invoke (base e) (body e) operation argument linked ≡ Err r) × (is_memory (Err r) ≡ false)
invoke_full e operation argument linked apdu found r carried same short numbered is =
    let go : Reply = Ok (Some (next_id (body e))) in
    let ladder : Reply = if not (is_silent operation) && nat_le 4096 (length (opens_of true e.calls.opens)) then Err refusals.TooManyOpen else (if nat_le 2147483647 e.calls.made then Err refusals.NumbersSpent else go) in
    let h = subst (λ (f : Option CallRefusal). IsNumbered e.calls operation f ladder go) is (numbered go) in (
      ap (λ (b : Bool). if not b then Err refusals.NotTyped else (if is_too_long (base e) (invoke_apdu operation (next_id (body e)) linked argument) then Err refusals.TooLong else ladder)) carried
          ∙ ap (λ (b : Bool). if b then Err refusals.TooLong else ladder) (ap (is_too_long (base e)) (sym same) ∙ short)
          ∙ h.0,
      h.1,
    )

pub has_room : (e : EndView) (operation : Operation) (found : Option CallRefusal)
    → ((go : Reply) → IsNumbered e.calls operation found (if not (is_silent operation) && nat_le 4096 (length (opens_of true e.calls.opens)) then Err refusals.TooManyOpen else (if nat_le 2147483647 e.calls.made then Err refusals.NumbersSpent else go)) go)
    → found ≡ None → HasRoom e.calls operation
has_room e operation found numbered is =
    let go : Reply = Ok None in
    let ladder : Reply = if not (is_silent operation) && nat_le 4096 (length (opens_of true e.calls.opens)) then Err refusals.TooManyOpen else (if nat_le 2147483647 e.calls.made then Err refusals.NumbersSpent else go) in
    (subst (λ (f : Option CallRefusal). IsNumbered e.calls operation f ladder go) is (numbered go)).0
