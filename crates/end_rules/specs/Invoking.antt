-- What may be called of remote operations: Invoke, Answer, Refuse. The first row that fails decides (X.880 8;
-- the rows and their order are this project's own).
use Rattle.std.specs.Prelude.{ℕ, suc, min, ℤ, pos, length, Bool, true, false, not, ◌&&◌, ◌||◌, nat_lt, nat_le, Option, Some, None, Result, Ok, Err, if◌then◌else◌}
use Rattle.asn1_types.specs.declared.value.Val.{Val}
use Rattle.osi_base.specs.declared.syntax.Syntax.{Syntax}
use Rattle.osi_base.specs.declared.syntax.Syntax.TheVariants.{Ber, Der, Packed}
use Rattle.osi_base.specs.Limits.{last_invocation, most_octets, most_open, most_queued}
use Rattle.stub_tables.specs.declared.operation.Code.{Code}
use Rattle.stub_tables.specs.declared.operation.Operation.{Operation}
use Rattle.stub_tables.specs.declared.operation.ErrorRow.{ErrorRow}
use Rattle.stub_tables.specs.declared.apdu.Apdu.{Apdu}
use Rattle.stub_tables.specs.declared.apdu.Apdu.TheVariants as apdus
use Rattle.stub_tables.specs.declared.apdu.Returned.{Returned}
use Rattle.stub_tables.specs.Codes.{is_silent, is_error_of}
use Rattle.stub_tables.specs.Lookup.{operation_at, error_at}
use Rattle.stub_tables.specs.Uses.{is_carried}
use Rattle.dialogue.specs.declared.call.CallRefusal.{CallRefusal}
use Rattle.dialogue.specs.declared.call.CallRefusal.TheVariants as refusals
use Rattle.end_rules.specs.Base.{Base, is_direct, is_reliable}
use Rattle.end_rules.specs.Sets.{is_deleted_in, is_among, has_abstract, carrier}
use Rattle.osi_base.specs.SetPlaces.{pair_of}
use Rattle.end_rules.specs.State.{Body, OpenCall, is_free, is_none, opened_with, opens_of}

abbrev pub Reply : Type 0
Reply = Result (Option ℤ) CallRefusal

-- ---- the APDUs that calls write (X.882 9)

abbrev pub invoke_apdu : Operation → ℤ → Option ℤ → Option Val → Apdu
invoke_apdu operation id linked argument = apdus.Invoke id linked operation.code argument

abbrev pub returned_with : Code → Option Val → Option Returned
returned_with code None = None
returned_with code (Some value) = Some (record { code = code; value = value })

abbrev pub result_apdu : Operation → ℤ → Option Val → Apdu
result_apdu operation id result = apdus.Result id (returned_with operation.code result)

abbrev pub error_apdu : ErrorRow → ℤ → Option Val → Apdu
error_apdu error id parameter = apdus.Error id error.code parameter

-- a spelling in one of the three syntaxes has too many octets
abbrev pub is_too_long_in : Base → Syntax → Apdu → Bool
is_too_long_in base syntax apdu = nat_lt most_octets (length (base.spellings.apdu syntax apdu))

abbrev pub is_too_long : Base → Apdu → Bool
is_too_long base apdu = is_too_long_in base Ber apdu || is_too_long_in base Der apdu || is_too_long_in base Packed apdu

-- in direct mode an own restart that isn't answered stops them
abbrev pub is_stopped : Base → Body → Bool
is_stopped base body = is_direct base.mode && not (is_free body.link.awaits)

-- in reliable mode what is handed in joins the queue
abbrev pub is_queue_full : Base → Body → Bool
is_queue_full base body = is_reliable base.mode && nat_le most_queued (length body.sending.queue)

-- ---- Invoke

-- the k-th invocation of an end has the identifier k (the last one stands for those past it)
abbrev pub next_id : Body → ℤ
next_id body = pos (min (suc body.calls.made) last_invocation)

-- the identifier is in the set, with the module's abstract syntax
abbrev pub is_on_module : Base → Body → ℕ → Bool
is_on_module base body context = has_abstract base.tables.name_oid (pair_of body.sets.held context)

-- the operation may be linked to this one (X.880 8.2.6)
abbrev pub is_linked_to : Option Operation → ℕ → Bool
is_linked_to None operation = false
is_linked_to (Some parent) operation = is_among operation parent.linked

abbrev pub link_refusal : Base → ℕ → ℤ → Option OpenCall → Option CallRefusal
link_refusal base operation linked None = Some (refusals.ParentClosed linked)
link_refusal base operation linked (Some parent) =
    if is_linked_to (operation_at base.tables parent.operation) operation then None else Some (refusals.LinkNotAllowed linked)

-- a link names an open invocation of the peer
abbrev pub linking_refusal : Base → Body → ℕ → Option ℤ → Option CallRefusal
linking_refusal base body operation None = None
linking_refusal base body operation (Some linked) =
    link_refusal base operation linked (opened_with false linked body.calls.opens)

abbrev pub can_send_invoke : Base → Body → Operation → Option Val → Option ℤ → Reply
can_send_invoke base body operation argument linked =
    if not (is_carried base.tables.types operation.argument argument) then Err refusals.NotTyped
    else (if is_too_long base (invoke_apdu operation (next_id body) linked argument) then Err refusals.TooLong
    else (if not (is_silent operation) && nat_le most_open (length (opens_of true body.calls.opens)) then Err refusals.TooManyOpen
    else (if nat_le last_invocation body.calls.made then Err refusals.NumbersSpent
    else (if is_queue_full base body then Err refusals.QueueFull
    else Ok (Some (next_id body))))))

abbrev pub unless_refused : Option CallRefusal → Reply → Reply
unless_refused None reply = reply
unless_refused (Some refusal) reply = Err refusal

abbrev pub can_invoke_operation : Base → Body → ℕ → ℕ → Option Operation → Option Val → Option ℤ → Reply
can_invoke_operation base body context place None argument linked = Err refusals.UnknownOperation
can_invoke_operation base body context place (Some operation) argument linked =
    if not (is_on_module base body context) then Err (refusals.Absent context)
    else (if is_deleted_in body.sets.own context then Err refusals.AlterPending
    else unless_refused (linking_refusal base body place linked) (can_send_invoke base body operation argument linked))

abbrev pub can_invoke : Base → Body → ℕ → ℕ → Option Val → Option ℤ → Reply
can_invoke base body context operation argument linked =
    if is_stopped base body then Err refusals.Waiting
    else can_invoke_operation base body context operation (operation_at base.tables operation) argument linked

-- ---- Answer and Refuse

-- outcomes travel on the carrier of their invocation's context
abbrev pub carrier_in : Base → Body → ℕ → Option ℕ
carrier_in base body context = carrier base.tables.name_oid body.sets.held body.sets.own context

abbrev pub lacks_carrier : Base → Body → ℕ → Bool
lacks_carrier base body context = is_direct base.mode && is_none (carrier_in base body context)

abbrev pub can_send_outcome : Base → Body → OpenCall → Apdu → Reply
can_send_outcome base body o apdu =
    if lacks_carrier base body o.context then Err refusals.NoContext
    else (if is_too_long base apdu then Err refusals.TooLong
    else (if is_queue_full base body then Err refusals.QueueFull
    else Ok None))

abbrev pub can_answer_open : Base → Body → ℤ → Option OpenCall → Option Operation → Option Val → Reply
can_answer_open base body id None operation result = Err (refusals.NoInvocation id)
can_answer_open base body id (Some o) None result = Err (refusals.NoInvocation id)
can_answer_open base body id (Some o) (Some operation) result =
    if not operation.returns then Err refusals.NotAllowed
    else (if not (is_carried base.tables.types operation.result result) then Err refusals.NotTyped
    else can_send_outcome base body o (result_apdu operation id result))

-- the operation of an open invocation
abbrev pub operation_of : Base → Option OpenCall → Option Operation
operation_of base None = None
operation_of base (Some o) = operation_at base.tables o.operation

abbrev pub can_answer : Base → Body → ℤ → Option Val → Reply
can_answer base body id result =
    if is_stopped base body then Err refusals.Waiting
    else can_answer_open base body id (opened_with false id body.calls.opens) (operation_of base (opened_with false id body.calls.opens)) result

-- the last rows of a refusal by an error
abbrev pub can_refuse_with : Base → Body → ℤ → OpenCall → ErrorRow → Option Val → Reply
can_refuse_with base body id o error parameter =
    if not (is_carried base.tables.types error.parameter parameter) then Err refusals.NotTyped
    else can_send_outcome base body o (error_apdu error id parameter)

abbrev pub can_refuse_open : Base → Body → ℤ → Option OpenCall → Option Operation → ℕ → Option ErrorRow → Option Val → Reply
can_refuse_open base body id None operation place error parameter = Err (refusals.NoInvocation id)
can_refuse_open base body id (Some o) None place error parameter = Err (refusals.NoInvocation id)
can_refuse_open base body id (Some o) (Some operation) place None parameter = Err refusals.UnknownError
can_refuse_open base body id (Some o) (Some operation) place (Some error) parameter =
    if not (is_error_of operation place) then Err refusals.NotAllowed
    else can_refuse_with base body id o error parameter

abbrev pub can_refuse : Base → Body → ℤ → ℕ → Option Val → Reply
can_refuse base body id error parameter =
    if is_stopped base body then Err refusals.Waiting
    else can_refuse_open base body id (opened_with false id body.calls.opens) (operation_of base (opened_with false id body.calls.opens)) error (error_at base.tables error) parameter

-- a reply that memory was refused
abbrev pub is_memory : Reply → Bool
is_memory (Ok answer) = false
is_memory (Err refusals.NoMemory) = true
is_memory (Err _) = false
