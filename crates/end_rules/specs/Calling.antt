-- What may be called, and why not: the first row that fails decides (X.225 7, X.228 8; the rows and their
-- order are this project's own).
use Rattle.std.specs.Prelude.{ℕ, length, Bool, true, false, not, ◌&&◌, ◌||◌, nat_lt, nat_le, None, Ok, Err, if◌then◌else◌}
use Rattle.osi_base.specs.Limits.{most_marks}
use Rattle.dialogue.specs.declared.call.Call.{Call}
use Rattle.dialogue.specs.declared.call.Call.TheVariants as the_calls
use Rattle.dialogue.specs.declared.call.CallRefusal.TheVariants as refusals
use Rattle.dialogue.specs.declared.config.Phase.{Phase}
use Rattle.dialogue.specs.declared.config.Phase.TheVariants.{Idle, Opening, Up, Releasing, Recovering, Dead}
use Rattle.end_rules.specs.Base.{Base, is_bare, is_direct, is_reliable}
use Rattle.end_rules.specs.Sets.{next_number}
use Rattle.end_rules.specs.State.{Body, is_up, is_broken, is_free, is_none, is_empty, is_current, is_running, is_ending, is_suspended, opens_of}
use Rattle.end_rules.specs.Units.{has_marks, has_restarts, has_token}
use Rattle.end_rules.specs.Invoking.{Reply, can_invoke, can_answer, can_refuse}
use Rattle.end_rules.specs.Altering.{can_alter}

-- ---- marks, the turn and restarts

abbrev pub can_mark : Base → Body → Reply
can_mark base body =
    if not (is_direct base.mode && has_marks body.link.selected) then Err refusals.NotNegotiated
    else (if not (is_free body.link.awaits) then Err refusals.Waiting
    else (if not body.link.turn then Err refusals.NoTurn
    else (if not (is_empty body.sets.own) then Err refusals.AlterPending
    else (if nat_lt most_marks (next_number body.saved) then Err refusals.MarksFull
    else Ok None))))

-- an own activity is in progress
abbrev pub has_activity : Body → Bool
has_activity body = is_current is_running body.sending.current || is_current is_ending body.sending.current

abbrev pub can_give : Base → Body → Reply
can_give base body =
    if not (has_token base body) then Err refusals.NotNegotiated
    else (if not (is_free body.link.awaits) then Err refusals.Waiting
    else (if not body.link.turn then Err refusals.NoTurn
    else (if not (is_empty body.sets.own) then Err refusals.AlterPending
    else (if has_activity body then Err (refusals.ActivityOpen body.sending.started)
    else Ok None))))

abbrev pub can_please : Base → Body → Reply
can_please base body =
    if not (has_token base body) then Err refusals.NotNegotiated
    else (if not (is_free body.link.awaits) then Err refusals.Waiting
    else (if body.link.turn then Err refusals.HasTurn
    else Ok None))

abbrev pub can_restart : Base → Body → ℕ → Reply
can_restart base body n =
    if not (is_direct base.mode && has_restarts body.link.selected) then Err refusals.NotNegotiated
    else (if not (is_free body.link.awaits) then Err refusals.Waiting
    else (if not (nat_le 1 n && nat_le n (next_number body.saved)) then Err (refusals.NoSuchMark n)
    else Ok None))

-- ---- transfers

abbrev pub can_stop : Base → Body → Reply
can_stop base body =
    if is_direct base.mode then Err refusals.NotNegotiated
    else (if not (is_free body.link.awaits) then Err refusals.Waiting
    else (if not (has_activity body) then Err refusals.NoActivity
    else (if is_current is_ending body.sending.current then Err (refusals.Ending body.sending.started)
    else Ok None)))

abbrev pub can_resume : Base → Body → Reply
can_resume base body =
    if is_direct base.mode then Err refusals.NotNegotiated
    else (if not (is_free body.link.awaits) then Err refusals.Waiting
    else (if not (is_current is_suspended body.sending.current) then Err refusals.NotSuspended
    else (if not body.link.turn then Err refusals.NoTurn
    else (if not (is_empty body.sets.own) then Err refusals.AlterPending
    else Ok None))))

-- ---- release

abbrev pub can_release : Base → Body → Reply
can_release base body =
    if not (is_free body.link.awaits) then Err refusals.Waiting
    else (if is_reliable base.mode && not body.link.turn then Err refusals.NoTurn
    else (if not (is_empty body.sets.own) then Err refusals.AlterPending
    else (if not (is_none body.sending.current) then Err (refusals.ActivityOpen body.sending.started)
    else (if not (is_empty body.sending.queue) then Err (refusals.QueueWaiting (length body.sending.queue))
    else (if not (is_empty (opens_of true body.calls.opens)) then Err (refusals.OpenInvocations (length (opens_of true body.calls.opens)))
    else Ok None)))))

-- ---- the rows of each call

abbrev pub can_by_rows : Base → Body → Call → Reply
can_by_rows base body the_calls.Open = Ok None
can_by_rows base body (the_calls.Invoke context operation argument linked) = can_invoke base body context operation argument linked
can_by_rows base body (the_calls.Answer id result) = can_answer base body id result
can_by_rows base body (the_calls.Refuse id error parameter) = can_refuse base body id error parameter
can_by_rows base body (the_calls.Alter add delete) = can_alter base body (record { add = add; delete = delete })
can_by_rows base body the_calls.Mark = can_mark base body
can_by_rows base body the_calls.Give = can_give base body
can_by_rows base body (the_calls.Please priority) = can_please base body
can_by_rows base body (the_calls.Resync n) = can_restart base body n
can_by_rows base body the_calls.Interrupt = can_stop base body
can_by_rows base body the_calls.Resume = can_resume base body
can_by_rows base body the_calls.Discard = can_stop base body
can_by_rows base body the_calls.Recover = Ok None
can_by_rows base body the_calls.Release = can_release base body
can_by_rows base body the_calls.Abort = Ok None

-- ---- the rows of all calls

abbrev pub is_dead : Phase → Bool
is_dead Dead = true
is_dead _ = false

abbrev pub is_idle : Phase → Bool
is_idle Idle = true
is_idle _ = false

abbrev pub may_abort_in : Phase → Bool
may_abort_in Opening = true
may_abort_in Up = true
may_abort_in Releasing = true
may_abort_in Recovering = true
may_abort_in _ = false

-- an association is opened, recovered and released by its initiator
abbrev pub is_initiators : Call → Bool
is_initiators the_calls.Open = true
is_initiators the_calls.Recover = true
is_initiators the_calls.Release = true
is_initiators _ = false

-- the phases in which a call may be made
abbrev pub is_phase_for : Call → Phase → Bool
is_phase_for the_calls.Open phase = is_idle phase
is_phase_for the_calls.Recover phase = is_broken phase
is_phase_for the_calls.Abort phase = may_abort_in phase
is_phase_for _ phase = is_up phase

-- in bare mode there are invocations and their outcomes alone
abbrev pub is_of_bare_mode : Call → Bool
is_of_bare_mode (the_calls.Invoke context operation argument linked) = true
is_of_bare_mode (the_calls.Answer id result) = true
is_of_bare_mode (the_calls.Refuse id error parameter) = true
is_of_bare_mode _ = false

-- the answer to a call
abbrev pub can_call : Base → Body → Call → Reply
can_call base body call =
    if is_dead body.link.phase then Err refusals.Dead
    else (if is_initiators call && not base.initiator then Err refusals.NotInitiator
    else (if not (is_phase_for call body.link.phase) then Err (refusals.WrongPhase body.link.phase)
    else (if is_bare base.mode && not (is_of_bare_mode call) then Err refusals.NotNegotiated
    else can_by_rows base body call)))
