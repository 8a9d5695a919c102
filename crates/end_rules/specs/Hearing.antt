-- What becomes of an APDU that is taken: what it shows, what it opens and closes, which reject it brings. The
-- first problem that holds is the reject's (X.880 9, X.882 9).
use Rattle.std.specs.Prelude.{ℕ, ℤ, pos, List, [], ◌∷◌, ◌++◌, length, Bool, true, false, not, ◌&&◌, nat_eq, nat_le, if◌then◌else◌, Option, Some, None, is_some}
use Rattle.osi_base.specs.declared.syntax.Pair.{Pair}
use Rattle.osi_base.specs.declared.syntax.Syntax.{Syntax}
use Rattle.osi_base.specs.declared.syntax.Syntax.TheVariants.{Ber}
use Rattle.osi_base.specs.declared.layer_words.Problem.{Problem}
use Rattle.osi_base.specs.declared.layer_words.ProblemKind.{ProblemKind}
use Rattle.osi_base.specs.declared.layer_words.ProblemKind.TheVariants as problems
use Rattle.osi_base.specs.Limits.{most_open}
use Rattle.asn1_types.specs.declared.value.Val.{Val}
use Rattle.stub_tables.specs.declared.operation.Code.{Code}
use Rattle.stub_tables.specs.declared.operation.Use.{Use}
use Rattle.stub_tables.specs.declared.operation.Operation.{Operation}
use Rattle.stub_tables.specs.declared.operation.ErrorRow.{ErrorRow}
use Rattle.stub_tables.specs.declared.apdu.Apdu.{Apdu}
use Rattle.stub_tables.specs.declared.apdu.Apdu.TheVariants as apdus
use Rattle.stub_tables.specs.declared.apdu.Returned.{Returned}
use Rattle.stub_tables.specs.Codes.{is_silent, is_error_of}
use Rattle.stub_tables.specs.Lookup.{operation_at, error_at, operation_with, error_with}
use Rattle.stub_tables.specs.Uses.{is_carried}
use Rattle.dialogue.specs.declared.indication.Indication.{Indication}
use Rattle.dialogue.specs.declared.indication.Indication.TheVariants as indications
use Rattle.end_rules.specs.Base.{Base, Carried, Absent, Spelled, Unspelled, HeardHead, General, BadReject, InvokeHead, ResultHead, ErrorHead, RejectHead, is_reliable}
use Rattle.osi_base.specs.SetPlaces.{pair_of}
use Rattle.end_rules.specs.Messages.{ValueContent, Remote, Unread, DataValue, Values, OfData, Message, Session}
use Rattle.end_rules.specs.State.{Body, Calls, OpenCall, is_empty, opened_with, opens_of, close}
use Rattle.end_rules.specs.Invoking.{is_linked_to, operation_of, carrier_in}

-- ---- heads

abbrev pub carried_in : Option Val → Carried
carried_in None = Absent
carried_in (Some value) = Spelled value

abbrev pub code_returned : Option Returned → Option Code
code_returned None = None
code_returned (Some r) = Some r.code

abbrev pub value_returned : Option Returned → Carried
value_returned None = Absent
value_returned (Some r) = Spelled r.value

-- what an APDU says
abbrev pub head_of_apdu : Apdu → HeardHead
head_of_apdu (apdus.Invoke id linked code argument) = InvokeHead id linked code (carried_in argument)
head_of_apdu (apdus.Result id returned) = ResultHead id (code_returned returned) (value_returned returned)
head_of_apdu (apdus.Error id code parameter) = ErrorHead id code (carried_in parameter)
head_of_apdu (apdus.Reject id problem) = RejectHead id problem

-- the value that stands there is one that the use allows
abbrev pub is_right : Base → Use → Carried → Bool
is_right base use_ Absent = is_carried base.tables.types use_ None
is_right base use_ (Spelled value) = is_carried base.tables.types use_ (Some value)
is_right base use_ Unspelled = false

abbrev pub value_in : Carried → Option Val
value_in Absent = None
value_in (Spelled value) = Some value
value_in Unspelled = None

-- ---- what is heard

-- a reject that is due: the identifier that it names, if any, and its problem
pub record Rejecting : Type 0 where
  pub id : Option ℤ
  pub problem : Problem

-- the open invocations afterwards, what is shown, and the reject that is due
pub record Heard : Type 0 where
  pub calls : Calls
  pub shown : List Indication
  pub reject : Option Rejecting

abbrev pub problem_with : ProblemKind → ℕ → Problem
problem_with kind number = record { kind = kind; number = pos number }

-- rejected, with these invocations open
abbrev pub rejected : Calls → Option ℤ → ProblemKind → ℕ → Heard
rejected calls id kind number =
    record { calls = calls; shown = []; reject = Some (record { id = id; problem = problem_with kind number }) }

abbrev pub showing : Calls → Indication → Heard
showing calls indication = record { calls = calls; shown = indication ∷ []; reject = None }

-- the problem, or what is done without one
abbrev pub unless_problem : Option ℕ → (ℕ → Heard) → Heard → Heard
unless_problem None refused heard = heard
unless_problem (Some number) refused heard = refused number

abbrev pub first_problem : Option ℕ → Option ℕ → Option ℕ
first_problem None later = later
first_problem (Some number) later = Some number

abbrev pub problem_if : Bool → ℕ → Option ℕ
problem_if true number = Some number
problem_if false number = None

-- ---- invocations

abbrev pub is_silent_at : Base → Option ℕ → Bool
is_silent_at base None = false
is_silent_at base (Some place) = is_silent_op (operation_at base.tables place)
  where
    is_silent_op : Option Operation → Bool
    is_silent_op None = false
    is_silent_op (Some operation) = is_silent operation

abbrev pub has_links : Option Operation → Bool
has_links None = false
has_links (Some operation) = not (is_empty operation.linked)

-- the linked invocation is open (5), its operation may be linked to (6), by this one (7)
abbrev pub link_problem : Base → Calls → ℕ → Option ℤ → Option ℕ
link_problem base calls place None = None
link_problem base calls place (Some linked) =
    first_problem (problem_if (not (is_some (opened_with true linked calls.opens))) 5)
    (first_problem (problem_if (not (has_links (operation_of base (opened_with true linked calls.opens)))) 6)
    (problem_if (not (is_linked_to (operation_of base (opened_with true linked calls.opens)) place)) 7))

abbrev pub argument_problem : Base → Option Operation → Carried → Option ℕ
argument_problem base None argument = Some 2
argument_problem base (Some operation) argument = problem_if (not (is_right base operation.argument argument)) 2

abbrev pub operation_problem : Base → Calls → Option ℕ → Option ℤ → Carried → Option ℕ
operation_problem base calls None linked argument = Some 1
operation_problem base calls (Some place) linked argument =
    first_problem (link_problem base calls place linked) (argument_problem base (operation_at base.tables place) argument)

-- duplicate invocation (0), resource limitation (3), unrecognized operation (1), links (5 to 7), mistyped
-- argument (2)
abbrev pub invoke_problem : Base → Calls → ℤ → Option ℤ → Option ℕ → Carried → Option ℕ
invoke_problem base calls id linked place argument =
    first_problem (problem_if (is_some (opened_with false id calls.opens)) 0)
    (first_problem (problem_if (nat_le most_open (length (opens_of false calls.opens)) && not (is_silent_at base place)) 3)
    (operation_problem base calls place linked argument))

-- an invocation is open until its outcome; a silent one is never open
abbrev pub with_opened : Base → OpenCall → Calls → Calls
with_opened base o calls =
    if is_silent_at base (Some o.operation) then calls else record calls { opens = calls.opens ++ o ∷ [] }

abbrev pub invoked : Base → Calls → ℕ → ℤ → Option ℤ → Option ℕ → Carried → Heard
invoked base calls context id linked None argument = rejected calls (Some id) problems.Invoke 1
invoked base calls context id linked (Some place) argument =
    showing (with_opened base (record { own = false; id = id; operation = place; context = context; parent = linked }) calls)
    (indications.Invoked id place linked (value_in argument))

abbrev pub hear_invoke : Base → Calls → ℕ → ℤ → Option ℤ → Code → Carried → Heard
hear_invoke base calls context id linked code argument =
    unless_problem (invoke_problem base calls id linked (operation_with base.tables code) argument)
    (rejected calls (Some id) problems.Invoke)
    (invoked base calls context id linked (operation_with base.tables code) argument)

-- ---- outcomes

abbrev pub is_place : Option ℕ → ℕ → Bool
is_place None place = false
is_place (Some p) place = nat_eq p place

-- a result without a code and a value, or one with the operation's code and a value of its type
abbrev pub is_right_result : Base → ℕ → Operation → Option Code → Carried → Bool
is_right_result base place operation None value = is_carried base.tables.types operation.result None
is_right_result base place operation (Some code) value =
    is_place (operation_with base.tables code) place && is_right base operation.result value

-- result response unexpected (1), mistyped result (2)
abbrev pub result_problem : Base → ℕ → Option Operation → Option Code → Carried → Option ℕ
result_problem base place None code value = Some 1
result_problem base place (Some operation) code value =
    first_problem (problem_if (not operation.returns) 1) (problem_if (not (is_right_result base place operation code value)) 2)

-- an outcome of an invocation that isn't open (0) closes none; each other one closes it, rejected or not
abbrev pub hear_result_of : Base → Calls → ℤ → Option OpenCall → Option Code → Carried → Heard
hear_result_of base calls id None code value = rejected calls (Some id) problems.Result 0
hear_result_of base calls id (Some o) code value =
    unless_problem (result_problem base o.operation (operation_at base.tables o.operation) code value)
    (rejected (close true id calls) (Some id) problems.Result)
    (showing (close true id calls) (indications.Result id (value_in value)))

-- error response unexpected (1), unrecognized error (2), unexpected error (3), mistyped parameter (4)
abbrev pub known_error_problem : Base → Operation → Option ℕ → Carried → Option ℕ
known_error_problem base operation None parameter = Some 2
known_error_problem base operation (Some place) parameter =
    first_problem (problem_if (not (is_error_of operation place)) 3) (parameter_problem (error_at base.tables place))
  where
    parameter_problem : Option ErrorRow → Option ℕ
    parameter_problem None = Some 4
    parameter_problem (Some error) = problem_if (not (is_right base error.parameter parameter)) 4

abbrev pub error_problem : Base → Option Operation → Option ℕ → Carried → Option ℕ
error_problem base None place parameter = Some 1
error_problem base (Some operation) place parameter =
    first_problem (problem_if (is_empty operation.errors) 1) (known_error_problem base operation place parameter)

abbrev pub showing_error : Calls → ℤ → Option ℕ → Carried → Heard
showing_error calls id None parameter = rejected calls (Some id) problems.Error 2
showing_error calls id (Some place) parameter = showing calls (indications.Error id place (value_in parameter))

abbrev pub hear_error_of : Base → Calls → ℤ → Option OpenCall → Option ℕ → Carried → Heard
hear_error_of base calls id None place parameter = rejected calls (Some id) problems.Error 0
hear_error_of base calls id (Some o) place parameter =
    unless_problem (error_problem base (operation_at base.tables o.operation) place parameter)
    (rejected (close true id calls) (Some id) problems.Error)
    (showing_error (close true id calls) id place parameter)

-- ---- rejects: one of an invoke problem closes the own invocation that it names

abbrev pub is_of_invocation : ProblemKind → Bool
is_of_invocation problems.Invoke = true
is_of_invocation _ = false

abbrev pub hear_reject : Calls → Option ℤ → Problem → Heard
hear_reject calls None problem = showing calls (indications.RejectTaken None problem)
hear_reject calls (Some id) problem =
    if is_of_invocation problem.kind && is_some (opened_with true id calls.opens)
    then showing (close true id calls) (indications.Rejected id problem)
    else showing calls (indications.RejectTaken (Some id) problem)

-- ---- an APDU on a context

abbrev pub hear : Base → Calls → ℕ → HeardHead → Heard
hear base calls context (General number) = rejected calls None problems.General number
hear base calls context BadReject = showing calls indications.BadReject
hear base calls context (InvokeHead id linked code argument) = hear_invoke base calls context id linked code argument
hear base calls context (ResultHead id code value) = hear_result_of base calls id (opened_with true id calls.opens) code value
hear base calls context (ErrorHead id code parameter) =
    hear_error_of base calls id (opened_with true id calls.opens) (error_with base.tables code) parameter
hear base calls context (RejectHead id problem) = hear_reject calls id problem

-- ---- what the end does with it

-- a value on a context of the set
abbrev pub value_on : Body → ℕ → ValueContent → DataValue
value_on body id content = record { id = id; pair = pair_of body.sets.held id; content = content }

-- APDUs outside reliable mode go as data at once
abbrev pub data_on : Body → ℕ → Apdu → Message
data_on body id apdu = Session (OfData (Values (value_on body id (Remote apdu) ∷ [])))

-- the body afterwards, the rejects sent, what is shown
pub record Taken : Type 0 where
  pub body : Body
  pub answers : List Message
  pub shown : List Indication

abbrev pub reject_apdu : Rejecting → Apdu
reject_apdu r = apdus.Reject r.id r.problem

-- outside reliable mode a reject goes on the carrier of the context of what it rejects, or isn't sent
abbrev pub sent_on : Body → Rejecting → Option ℕ → Taken
sent_on body r None = record { body = body; answers = []; shown = [] }
sent_on body r (Some id) =
    record { body = body; answers = data_on body id (reject_apdu r) ∷ []; shown = indications.RejectSent r.id r.problem ∷ [] }

-- in reliable mode it joins the queue
abbrev pub queued : Body → ℕ → Rejecting → Taken
queued body context r =
    record {
      body = record body { sending = record body.sending { queue = body.sending.queue ++ record { context = context; apdu = reject_apdu r } ∷ [] } };
      answers = [];
      shown = indications.RejectSent r.id r.problem ∷ [];
    }

abbrev pub with_reject : Base → Body → ℕ → Option Rejecting → Taken
with_reject base body context None = record { body = body; answers = []; shown = [] }
with_reject base body context (Some r) =
    if is_reliable base.mode then queued body context r else sent_on body r (carrier_in base body context)

abbrev pub shown_first : List Indication → Taken → Taken
shown_first shown taken = record taken { shown = shown ++ taken.shown }

abbrev pub on_heard : Base → Body → ℕ → Heard → Taken
on_heard base body context heard =
    shown_first heard.shown (with_reject base (record body { calls = heard.calls }) context heard.reject)

abbrev pub take_head : Base → Body → ℕ → HeardHead → Taken
take_head base body context head = on_heard base body context (hear base body.calls context head)

abbrev pub syntax_of : Option Pair → Syntax
syntax_of None = Ber
syntax_of (Some pair) = pair.transfer

-- what a value of the module's abstract syntax says
abbrev pub head_of : Base → DataValue → HeardHead
head_of base value = head_in value.content
  where
    head_in : ValueContent → HeardHead
    head_in (Remote apdu) = head_of_apdu apdu
    head_in (Unread octets) = base.spellings.head (syntax_of value.pair) octets
    head_in _ = General 0

-- one value after the other
abbrev pub then_taken : Taken → Taken → Taken
then_taken first second = record { body = second.body; answers = first.answers ++ second.answers; shown = first.shown ++ second.shown }

abbrev pub take_values : Base → Body → List DataValue → Taken
take_values base body [] = record { body = body; answers = []; shown = [] }
take_values base body (value ∷ values) =
    let taken = take_head base body value.id (head_of base value) in
    then_taken taken (take_values base taken.body values)
