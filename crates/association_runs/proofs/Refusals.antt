-- No row of a call is want of memory, so that a refused call changes nothing.
use Rattle.std.proofs.Common.{◌≡◌, refl, subst, ℕ, List, [], ◌∷◌, length, true, false, None, Ok, Err}
use Rattle.std.specs.Prelude.{Bool, not, ◌&&◌, nat_lt, nat_le, Option, Some, is_some, ℤ, if◌then◌else◌}
use Rattle.asn1_types.specs.declared.value.Val.{Val}
use Rattle.osi_base.specs.declared.layer_words.Proposal.{Proposal}
use Rattle.osi_base.specs.Limits.{most_marks, last_invocation, most_open, most_alterations}
use Rattle.stub_tables.specs.declared.operation.Operation.{Operation}
use Rattle.stub_tables.specs.declared.operation.ErrorRow.{ErrorRow}
use Rattle.stub_tables.specs.declared.apdu.Apdu.{Apdu}
use Rattle.stub_tables.specs.Lookup.{operation_at, error_at}
use Rattle.stub_tables.specs.Codes.{is_silent, is_error_of}
use Rattle.stub_tables.specs.Uses.{is_carried}
use Rattle.dialogue.specs.declared.call.Call.{Call}
use Rattle.dialogue.specs.declared.call.Call.TheVariants as the_calls
use Rattle.dialogue.specs.declared.call.CallRefusal.{CallRefusal}
use Rattle.dialogue.specs.declared.call.CallRefusal.TheVariants as refusals
use Rattle.end_model.specs.end_rules.Base.{Base, is_bare, is_direct, is_reliable}
use Rattle.end_model.specs.end_rules.Sets.{Alteration, next_number, is_deleted_in, is_named_in, has_parity, is_fixed, is_among}
use Rattle.osi_base.specs.SetPlaces.{pair_of}
use Rattle.end_model.specs.end_rules.State.{Body, OpenCall, is_free, is_none, is_empty, is_current, is_ending, is_suspended, opened_with, opens_of}
use Rattle.end_model.specs.end_rules.Units.{has_marks, has_restarts, has_token}
use Rattle.end_model.specs.end_rules.Invoking.{Reply, invoke_apdu, result_apdu, error_apdu, is_stopped, is_queue_full, is_on_module, is_too_long, next_id, is_linked_to, link_refusal, linking_refusal, can_send_invoke, unless_refused, can_invoke_operation, lacks_carrier, can_send_outcome, can_answer_open, operation_of, can_refuse_open}
use Rattle.end_model.specs.end_rules.Altering.{used, is_bad, addition_refusal, deletion_refusal, or_else, additions_refusal, deletions_refusal, is_set_full, alteration_refusal, can_alter}
use Rattle.end_model.specs.end_rules.Calling.{can_mark, has_activity, can_give, can_please, can_restart, can_stop, can_resume, can_release, can_by_rows, is_dead, is_initiators, is_phase_for, is_of_bare_mode, can_call}
use Rattle.end_model.specs.end_rules.Requesting.{after_refused}

abbrev NotMemory : CallRefusal → Type 0
NotMemory refusals.NoMemory = ⊥
NotMemory _ = Unit {0}

abbrev IsRow : Reply → Type 0
IsRow (Ok answer) = Unit {0}
IsRow (Err refusal) = NotMemory refusal

abbrev IsNone : Option CallRefusal → Type 0
IsNone None = Unit {0}
IsNone (Some refusal) = NotMemory refusal

row : (b : Bool) (refusal : CallRefusal) (later : Reply) → NotMemory refusal → IsRow later → IsRow (if b then Err refusal else later)
row true refusal later h k = h
row false refusal later h k = k

none : (b : Bool) (refusal : CallRefusal) (later : Option CallRefusal) → NotMemory refusal → IsNone later → IsNone (if b then Some refusal else later)
none true refusal later h k = h
none false refusal later h k = k

none-or : (first later : Option CallRefusal) → IsNone first → IsNone later → IsNone (or_else first later)
none-or None later h k = k
none-or (Some refusal) later h k = h

unless : (first : Option CallRefusal) (later : Reply) → IsNone first → IsRow later → IsRow (unless_refused first later)
unless None later h k = k
unless (Some refusal) later h k = h

-- ---- invocations and outcomes

link-row : (base : Base) (operation : ℕ) (linked : ℤ) (o : Option OpenCall) → IsNone (link_refusal base operation linked o)
link-row base operation linked None = tt
link-row base operation linked (Some parent) = go (is_linked_to (operation_at base.tables parent.operation) operation)
  where
    go : (b : Bool) → IsNone (if b then None else Some (refusals.LinkNotAllowed linked))
    go true = tt
    go false = tt

linking-row : (base : Base) (body : Body) (operation : ℕ) (linked : Option ℤ) → IsNone (linking_refusal base body operation linked)
linking-row base body operation None = tt
linking-row base body operation (Some linked) = link-row base operation linked (opened_with false linked body.calls.opens)

send-row : (base : Base) (body : Body) (operation : Operation) (argument : Option Val) (linked : Option ℤ) → IsRow (can_send_invoke base body operation argument linked)
send-row base body operation argument linked =
    row (not (is_carried base.tables.types operation.argument argument)) refusals.NotTyped _ tt
    (row (is_too_long base (invoke_apdu operation (next_id body) linked argument)) refusals.TooLong _ tt
    (row (not (is_silent operation) && nat_le most_open (length (opens_of true body.calls.opens))) refusals.TooManyOpen _ tt
    (row (nat_le last_invocation body.calls.made) refusals.NumbersSpent _ tt
    (row (is_queue_full base body) refusals.QueueFull _ tt tt))))

invoke-row : (base : Base) (body : Body) (context place : ℕ) (o : Option Operation) (argument : Option Val) (linked : Option ℤ) → IsRow (can_invoke_operation base body context place o argument linked)
invoke-row base body context place None argument linked = tt
invoke-row base body context place (Some operation) argument linked =
    row (not (is_on_module base body context)) (refusals.Absent context) _ tt
    (row (is_deleted_in body.sets.own context) refusals.AlterPending _ tt
    (unless (linking_refusal base body place linked) (can_send_invoke base body operation argument linked) (linking-row base body place linked) (send-row base body operation argument linked)))

outcome-row : (base : Base) (body : Body) (o : OpenCall) (apdu : Apdu) → IsRow (can_send_outcome base body o apdu)
outcome-row base body o apdu =
    row (lacks_carrier base body o.context) refusals.NoContext _ tt
    (row (is_too_long base apdu) refusals.TooLong _ tt
    (row (is_queue_full base body) refusals.QueueFull _ tt tt))

answer-row : (base : Base) (body : Body) (id : ℤ) (o : Option OpenCall) (p : Option Operation) (result : Option Val) → IsRow (can_answer_open base body id o p result)
answer-row base body id None p result = tt
answer-row base body id (Some o) None result = tt
answer-row base body id (Some o) (Some operation) result =
    row (not operation.returns) refusals.NotAllowed _ tt
    (row (not (is_carried base.tables.types operation.result result)) refusals.NotTyped _ tt (outcome-row base body o (result_apdu operation id result)))

refuse-row : (base : Base) (body : Body) (id : ℤ) (o : Option OpenCall) (p : Option Operation) (place : ℕ) (e : Option ErrorRow) (parameter : Option Val) → IsRow (can_refuse_open base body id o p place e parameter)
refuse-row base body id None p place e parameter = tt
refuse-row base body id (Some o) None place e parameter = tt
refuse-row base body id (Some o) (Some operation) place None parameter = tt
refuse-row base body id (Some o) (Some operation) place (Some error) parameter =
    row (not (is_error_of operation place)) refusals.NotAllowed _ tt
    (row (not (is_carried base.tables.types error.parameter parameter)) refusals.NotTyped _ tt (outcome-row base body o (error_apdu error id parameter)))

-- ---- alterations

addition-row : (base : Base) (body : Body) (k : ℕ) → IsNone (addition_refusal base body k)
addition-row base body k =
    none (not (has_parity base.initiator k)) (refusals.WrongParity k) _ tt
    (none (is_named_in body.sets.own k) (refusals.Named k) _ tt
    (none (is_some (pair_of body.sets.held k)) (refusals.Present k) _ tt tt))

deletion-row : (body : Body) (k : ℕ) → IsNone (deletion_refusal body k)
deletion-row body k =
    none (is_named_in body.sets.own k) (refusals.Named k) _ tt
    (none (not (is_some (pair_of body.sets.held k))) (refusals.Absent k) _ tt
    (none (is_fixed (pair_of body.sets.held k)) (refusals.Fixed k) _ tt
    (none (is_among k (used body)) (refusals.InUse k) _ tt tt)))

additions-row : (base : Base) (body : Body) (ps : List Proposal) → IsNone (additions_refusal base body ps)
additions-row base body [] = tt
additions-row base body (p ∷ ps) = none-or (addition_refusal base body p.id) (additions_refusal base body ps) (addition-row base body p.id) (additions-row base body ps)

deletions-row : (body : Body) (ks : List ℕ) → IsNone (deletions_refusal body ks)
deletions-row body [] = tt
deletions-row body (k ∷ ks) = none-or (deletion_refusal body k) (deletions_refusal body ks) (deletion-row body k) (deletions-row body ks)

alteration-row : (base : Base) (body : Body) (a : Alteration) → IsNone (alteration_refusal base body a)
alteration-row base body a =
    none-or (additions_refusal base body a.add) _ (additions-row base body a.add)
    (none-or (deletions_refusal body a.delete) _ (deletions-row body a.delete)
    (none (is_set_full body a) refusals.SetFull _ tt tt))

alter-row : (base : Base) (body : Body) (a : Alteration) → IsRow (can_alter base body a)
alter-row base body a =
    row (not body.link.manages) refusals.NotNegotiated _ tt
    (row (not (is_free body.link.awaits)) refusals.Waiting _ tt
    (row (is_reliable base.mode && not body.link.turn) refusals.NoTurn _ tt
    (row (is_current is_ending body.sending.current) (refusals.Ending body.sending.started) _ tt
    (row (nat_le most_alterations (length body.sets.own)) refusals.AlterPending _ tt
    (row (is_bad a) refusals.BadProposal _ tt
    (unless (alteration_refusal base body a) (Ok None) (alteration-row base body a) tt))))))

-- ---- the other calls

mark-row : (base : Base) (body : Body) → IsRow (can_mark base body)
mark-row base body =
    row (not (is_direct base.mode && has_marks body.link.selected)) refusals.NotNegotiated _ tt
    (row (not (is_free body.link.awaits)) refusals.Waiting _ tt
    (row (not body.link.turn) refusals.NoTurn _ tt
    (row (not (is_empty body.sets.own)) refusals.AlterPending _ tt
    (row (nat_lt most_marks (next_number body.saved)) refusals.MarksFull _ tt tt))))

give-row : (base : Base) (body : Body) → IsRow (can_give base body)
give-row base body =
    row (not (has_token base body)) refusals.NotNegotiated _ tt
    (row (not (is_free body.link.awaits)) refusals.Waiting _ tt
    (row (not body.link.turn) refusals.NoTurn _ tt
    (row (not (is_empty body.sets.own)) refusals.AlterPending _ tt
    (row (has_activity body) (refusals.ActivityOpen body.sending.started) _ tt tt))))

please-row : (base : Base) (body : Body) → IsRow (can_please base body)
please-row base body =
    row (not (has_token base body)) refusals.NotNegotiated _ tt
    (row (not (is_free body.link.awaits)) refusals.Waiting _ tt
    (row body.link.turn refusals.HasTurn _ tt tt))

resume-row : (base : Base) (body : Body) → IsRow (can_resume base body)
resume-row base body =
    row (is_direct base.mode) refusals.NotNegotiated _ tt
    (row (not (is_free body.link.awaits)) refusals.Waiting _ tt
    (row (not (is_current is_suspended body.sending.current)) refusals.NotSuspended _ tt
    (row (not body.link.turn) refusals.NoTurn _ tt
    (row (not (is_empty body.sets.own)) refusals.AlterPending _ tt tt))))

release-row : (base : Base) (body : Body) → IsRow (can_release base body)
release-row base body =
    row (not (is_free body.link.awaits)) refusals.Waiting _ tt
    (row (is_reliable base.mode && not body.link.turn) refusals.NoTurn _ tt
    (row (not (is_empty body.sets.own)) refusals.AlterPending _ tt
    (row (not (is_none body.sending.current)) (refusals.ActivityOpen body.sending.started) _ tt
    (row (not (is_empty body.sending.queue)) (refusals.QueueWaiting (length body.sending.queue)) _ tt
    (row (not (is_empty (opens_of true body.calls.opens))) (refusals.OpenInvocations (length (opens_of true body.calls.opens))) _ tt tt)))))

restart-row : (base : Base) (body : Body) (n : ℕ) → IsRow (can_restart base body n)
restart-row base body n =
    row (not (is_direct base.mode && has_restarts body.link.selected)) refusals.NotNegotiated _ tt
    (row (not (is_free body.link.awaits)) refusals.Waiting _ tt
    (row (not (nat_le 1 n && nat_le n (next_number body.saved))) (refusals.NoSuchMark n) _ tt tt))

stop-row : (base : Base) (body : Body) → IsRow (can_stop base body)
stop-row base body =
    row (is_direct base.mode) refusals.NotNegotiated _ tt
    (row (not (is_free body.link.awaits)) refusals.Waiting _ tt
    (row (not (has_activity body)) refusals.NoActivity _ tt
    (row (is_current is_ending body.sending.current) (refusals.Ending body.sending.started) _ tt tt)))

by-rows : (base : Base) (body : Body) (call : Call) → IsRow (can_by_rows base body call)
by-rows base body the_calls.Open = tt
by-rows base body (the_calls.Invoke context operation argument linked) =
    row (is_stopped base body) refusals.Waiting _ tt (invoke-row base body context operation (operation_at base.tables operation) argument linked)
by-rows base body (the_calls.Answer id result) =
    row (is_stopped base body) refusals.Waiting _ tt (answer-row base body id (opened_with false id body.calls.opens) (operation_of base (opened_with false id body.calls.opens)) result)
by-rows base body (the_calls.Refuse id error parameter) =
    row (is_stopped base body) refusals.Waiting _ tt
    (refuse-row base body id (opened_with false id body.calls.opens) (operation_of base (opened_with false id body.calls.opens)) error (error_at base.tables error) parameter)
by-rows base body (the_calls.Alter add delete) = alter-row base body (record { add = add; delete = delete })
by-rows base body the_calls.Mark = mark-row base body
by-rows base body the_calls.Give = give-row base body
by-rows base body (the_calls.Please priority) = please-row base body
by-rows base body (the_calls.Resync n) = restart-row base body n
by-rows base body the_calls.Interrupt = stop-row base body
by-rows base body the_calls.Resume = resume-row base body
by-rows base body the_calls.Discard = stop-row base body
by-rows base body the_calls.Recover = tt
by-rows base body the_calls.Release = release-row base body
by-rows base body the_calls.Abort = tt

all-rows : (base : Base) (body : Body) (call : Call) → IsRow (can_call base body call)
all-rows base body call =
    row (is_dead body.link.phase) refusals.Dead _ tt
    (row (is_initiators call && not base.initiator) refusals.NotInitiator _ tt
    (row (not (is_phase_for call body.link.phase)) (refusals.WrongPhase body.link.phase) _ tt
    (row (is_bare base.mode && not (is_of_bare_mode call)) refusals.NotNegotiated _ tt (by-rows base body call))))

-- a refused call changes nothing
unchanged : (body : Body) (refusal : CallRefusal) → NotMemory refusal → after_refused body refusal ≡ body
unchanged body refusals.NoMemory h = absurd h
unchanged body _ h = refl

pub refused-unchanged : (base : Base) (body : Body) (call : Call) (refusal : CallRefusal) → can_call base body call ≡ Err refusal → after_refused body refusal ≡ body
refused-unchanged base body call refusal h = unchanged body refusal (subst IsRow h (all-rows base body call))
