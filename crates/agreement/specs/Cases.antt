-- Worked cases: short lists of events, whose outcome the definitions compute.
use Rattle.std.specs.Prelude.{◌≡◌, ℕ, zero, suc, Bool, true, false, nat_eq, nat_lt, ◌&&◌, ◌||◌, if◌then◌else◌, ◌++◌, List, [], ◌∷◌, Option, Some, None}
use Rattle.osi_base.specs.Limits.{most_marks, most_transferred, most_open}
use Rattle.agreement.specs.Sets.{Pair, Context, ContextSet, Role, lookup}
use Rattle.agreement.specs.Sets.Role.{Initiator, Responder}
use Rattle.agreement.specs.Sets.Item.{Addition, Deletion}
use Rattle.agreement.specs.Sets.Result.{AcceptedAs, Accepted, Kept}
use Rattle.agreement.specs.Messages.{Apdu, Problem, Calls, Value, Mode, ModelSetup, Message, Act, Choice}
use Rattle.agreement.specs.Messages.Problem.{General, OfInvocation, OfResult, OfError}
use Rattle.agreement.specs.Messages.Apdu.{Invoke, Outcome, Reject}
use Rattle.agreement.specs.Messages.Act.{Connects, Recovers, SaysValue, Queues, Alters, Marks, GivesTurn, Restarts, Starts, Encodes, Sends, EndsActivity, Interrupts, Discards, Resumes, Withdraws, TransportFails}
use Rattle.agreement.specs.Messages.Choice.{Nothing, Accepting, Results}
use Rattle.agreement.specs.State.{Phase, Handed, State}
use Rattle.agreement.specs.State.Phase.{Over}
use Rattle.agreement.specs.Acts.{MayAct}
use Rattle.agreement.specs.Takings.{is_purged, IsChoice}
use Rattle.agreement.specs.Worlds.{Step, World, state_of, Sending, flight_to, IsRun}
use Rattle.agreement.specs.Worlds.Step.{Acts, Takes, Passes}
use Rattle.agreement.specs.Worlds.Moment.{By, Break}
use Rattle.agreement.specs.Laws.{arrived, invoked, Encoding, encodings, items_started}

-- an end does something, or takes or passes over what comes next, or the connection breaks
pub data Event : Type 0 where
  Does : (role : Role) → (act : Act) → Event
  Gets : (role : Role) → (choice : Choice) → Event
  Cut : Event

abbrev pub is_over : Phase → Bool
is_over Over = true
is_over phase = false

abbrev pub step_of : Role → State → Message → Choice → Step
step_of role state message choice =
    if is_over state.phase then Passes message else if is_purged role state.awaits message then Passes message else Takes message choice

abbrev pub comes_to : Role → State → List Sending → Choice → World → World
comes_to role state [] choice world = world
comes_to role state (sending ∷ rest) choice world = By role (step_of role state sending.message choice) ∷ world

abbrev pub after_event : ModelSetup → World → Event → World
after_event setup world (Does role act) = By role (Acts act) ∷ world
after_event setup world (Gets role choice) = comes_to role (state_of setup role world) (flight_to setup role world) choice world
after_event setup world Cut = Break ∷ world

abbrev pub played_on : ModelSetup → World → List Event → World
played_on setup world [] = world
played_on setup world (event ∷ events) = played_on setup (after_event setup world event) events

-- the world that these events make, the oldest first
abbrev pub played : ModelSetup → List Event → World
played setup events = played_on setup [] events

-- a plain codec: the context, then the APDU
abbrev pub link_code : Option ℕ → ℕ
link_code None = 0
link_code (Some link) = suc link

abbrev pub problem_code : Problem → List ℕ
problem_code (General code) = 0 ∷ code ∷ []
problem_code (OfInvocation code) = 1 ∷ code ∷ []
problem_code (OfResult code) = 2 ∷ code ∷ []
problem_code (OfError code) = 3 ∷ code ∷ []

abbrev pub written_plainly : Apdu → List ℕ
written_plainly (Invoke number operation link argument) = 0 ∷ number ∷ operation ∷ link_code link ∷ argument
written_plainly (Outcome number content) = 1 ∷ number ∷ content
written_plainly (Reject number problem) = 2 ∷ number ∷ problem_code problem

abbrev pub link_of : ℕ → Option ℕ
link_of zero = None
link_of (suc link) = Some link

abbrev pub apdu_of : List ℕ → Option Apdu
apdu_of (zero ∷ number ∷ operation ∷ link ∷ argument) = Some (Invoke number operation (link_of link) argument)
apdu_of (suc zero ∷ number ∷ content) = Some (Outcome number content)
apdu_of (suc (suc zero) ∷ number ∷ zero ∷ code ∷ []) = Some (Reject number (General code))
apdu_of (suc (suc zero) ∷ number ∷ suc zero ∷ code ∷ []) = Some (Reject number (OfInvocation code))
apdu_of (suc (suc zero) ∷ number ∷ suc (suc zero) ∷ code ∷ []) = Some (Reject number (OfResult code))
apdu_of (suc (suc zero) ∷ number ∷ suc (suc (suc zero)) ∷ code ∷ []) = Some (Reject number (OfError code))
apdu_of octets = None

abbrev pub value_of_parts : ℕ → Option Pair → Option Apdu → Option Value
value_of_parts identifier (Some pair) (Some apdu) = Some (record { identifier = identifier; pair = pair; apdu = apdu })
value_of_parts identifier pair apdu = None

abbrev pub read_plainly : ContextSet → List ℕ → Option Value
read_plainly set [] = None
read_plainly set (identifier ∷ octets) = value_of_parts identifier (lookup set identifier) (apdu_of octets)

-- identifiers are at most 32767 (this project's own limit)
abbrev pub has_identifier : Value → Bool
has_identifier value = nat_lt value.identifier 32768

abbrev pub IsFaithful : Type 0
IsFaithful =
    (set : ContextSet) (value : Value) → has_identifier value ≡ true → lookup set value.identifier ≡ Some value.pair
    → read_plainly set (value.identifier ∷ written_plainly value.apdu) ≡ Some value

abbrev pub is_name : List ℕ → List ℕ → Bool
is_name [] [] = true
is_name [] (arc ∷ arcs) = false
is_name (arc ∷ arcs) [] = false
is_name (arc ∷ arcs) (other ∷ others) = nat_eq arc other && is_name arcs others

-- the ends know BER and a packed syntax
abbrev pub ber : List ℕ
ber = 2 ∷ 1 ∷ 1 ∷ []

abbrev pub packed : List ℕ
packed = 2 ∷ 999 ∷ 5 ∷ 1 ∷ []

abbrev pub is_syntax : List ℕ → Bool
is_syntax name = is_name name ber || is_name name packed

-- an outcome here begins with the number of its operation, and goes on with 0 if it is a result
abbrev pub has_outcome : ℕ → List ℕ → Bool
has_outcome operation [] = false
has_outcome operation (number ∷ rest) = nat_eq number operation

abbrev pub problem_of : Calls → Apdu → Problem
problem_of calls (Invoke number operation link argument) = OfInvocation 0
problem_of calls (Outcome number (operation ∷ zero ∷ rest)) = OfResult 0
problem_of calls (Outcome number content) = OfError 0
problem_of calls (Reject number problem) = problem

abbrev pub case_setup : Mode → IsFaithful → ModelSetup
case_setup mode faithful =
    record {
      mode = mode;
      codec = record { written = λ value. value.identifier ∷ written_plainly value.apdu; read = read_plainly; may_write = has_identifier; faithful = faithful };
      knows = is_syntax;
      silent = λ operation. false;
      links = λ parent child. true;
      allows = has_outcome;
      problem = problem_of;
      bare_context = record { identifier = 0; pair = record { abstract_syntax = 2 ∷ 999 ∷ 7 ∷ 1 ∷ []; transfer_syntax = ber } };
      most_marks = most_marks;
      most_transferred = most_transferred;
      most_open = most_open;
    }

abbrev pub module_in : List ℕ → Pair
module_in syntax = record { abstract_syntax = 2 ∷ 999 ∷ 7 ∷ 1 ∷ []; transfer_syntax = syntax }

abbrev pub in_ber : Pair
in_ber = module_in ber

abbrev pub in_packed : Pair
in_packed = module_in packed

abbrev pub acse_in_ber : Context
acse_in_ber = record { identifier = 1; pair = record { abstract_syntax = 2 ∷ 2 ∷ 1 ∷ 0 ∷ 1 ∷ []; transfer_syntax = ber } }

abbrev pub with_five : Pair → ContextSet
with_five pair = acse_in_ber ∷ record { identifier = 5; pair = pair } ∷ []

-- the opening with contexts 1 and 5
abbrev pub opening : List Event
opening = Does Initiator Connects ∷ Gets Responder (Accepting (with_five in_ber)) ∷ Gets Initiator Nothing ∷ []

abbrev pub invocation : ℕ → Pair → Value
invocation number pair = record { identifier = 5; pair = pair; apdu = Invoke number 1 None (5 ∷ []) }

-- both delete context 5 before either takes the other's alteration
abbrev pub collision : List Event
collision =
    opening ++ Does Initiator (Alters (Deletion 5 ∷ [])) ∷ Does Responder (Alters (Deletion 5 ∷ [])) ∷
    Gets Responder (Results (Accepted ∷ [])) ∷ Gets Initiator (Results (Accepted ∷ [])) ∷ Gets Initiator Nothing ∷ Gets Responder Nothing ∷ []

-- the initiator deletes context 5, on which the responder has an invocation on its way: rejected
abbrev pub use_rejected : List Event
use_rejected =
    opening ++ Does Responder (SaysValue (invocation 1 in_ber)) ∷ Does Initiator (Alters (Deletion 5 ∷ [])) ∷
    Gets Responder (Results (Kept ∷ [])) ∷ Gets Initiator Nothing ∷ Gets Initiator Nothing ∷ []

abbrev pub marked_once : List Event
marked_once = opening ++ Does Initiator Marks ∷ Gets Responder Nothing ∷ []

-- the initiator adds context 7, and the responder restarts before it takes that
abbrev pub addition_dropped : List Event
addition_dropped =
    marked_once ++ Does Initiator (Alters (Addition 7 (in_packed ∷ []) ∷ [])) ∷ Does Responder (Restarts 2) ∷
    Gets Responder Nothing ∷ Gets Initiator Nothing ∷ Gets Responder Nothing ∷ []

abbrev pub marked_twice : List Event
marked_twice = marked_once ++ Does Initiator Marks ∷ Gets Responder Nothing ∷ []

-- restarts to 3 and to 2 cross: the lower mark wins
abbrev pub lower_wins : List Event
lower_wins =
    marked_twice ++ Does Initiator (Restarts 3) ∷ Does Responder (Restarts 2) ∷ Gets Responder Nothing ∷ Gets Initiator Nothing ∷ Gets Responder Nothing ∷ []

-- restarts to 2 and to 2 cross: the initiator's wins
abbrev pub tie_won : List Event
tie_won =
    marked_twice ++ Does Initiator (Restarts 2) ∷ Does Responder (Restarts 2) ∷ Gets Initiator Nothing ∷ Gets Responder Nothing ∷ Gets Initiator Nothing ∷ []

-- context 5 is deleted and added again after mark 1, and a restart to 2 brings back the first pair
abbrev pub read_by_mark : List Event
read_by_mark =
    marked_once ++ Does Initiator (Alters (Deletion 5 ∷ [])) ∷ Gets Responder (Results (Accepted ∷ [])) ∷ Gets Initiator Nothing ∷
    Does Initiator (Alters (Addition 5 (in_packed ∷ []) ∷ [])) ∷ Gets Responder (Results (AcceptedAs in_packed ∷ [])) ∷ Gets Initiator Nothing ∷
    Does Responder (Restarts 2) ∷ Gets Initiator Nothing ∷ Gets Responder Nothing ∷ Does Initiator (SaysValue (invocation 1 in_ber)) ∷ Gets Responder Nothing ∷ []

-- the initiator's first transfer, in three parts with two marks
abbrev pub first_part : List ℕ
first_part = 5 ∷ 0 ∷ 1 ∷ []

abbrev pub second_part : List ℕ
second_part = 1 ∷ 0 ∷ []

abbrev pub third_part : List ℕ
third_part = 5 ∷ []

abbrev pub begun : List Event
begun =
    opening ++ Does Initiator (Queues 5 (Invoke 1 1 None (5 ∷ []))) ∷ Does Initiator Starts ∷ Does Initiator (Encodes 5) ∷
    Does Initiator (Sends first_part) ∷ Does Initiator Marks ∷ Gets Responder Nothing ∷ Gets Responder Nothing ∷ Gets Responder Nothing ∷ []

-- an interrupt: the confirmation of mark 1 is passed over
abbrev pub interrupted : List Event
interrupted = begun ++ Does Initiator Interrupts ∷ Gets Responder Nothing ∷ Gets Initiator Nothing ∷ Gets Initiator Nothing ∷ []

abbrev pub discarded : List Event
discarded = begun ++ Does Initiator Discards ∷ Gets Responder Nothing ∷ Gets Initiator Nothing ∷ Gets Initiator Nothing ∷ []

abbrev pub recovered : List Event
recovered = Cut ∷ Does Initiator Recovers ∷ Gets Responder (Accepting (with_five in_ber)) ∷ Gets Initiator Nothing ∷ []

-- mark 1 is confirmed, the rest is lost with the connection; the transfer is resumed from mark 1
abbrev pub resumed_from_mark : List Event
resumed_from_mark =
    begun ++ Gets Initiator Nothing ∷ Does Initiator (Sends second_part) ∷ Does Initiator Marks ∷ Does Initiator (Sends third_part) ∷ Does Initiator EndsActivity ∷
    (recovered ++ Does Initiator Resumes ∷ Does Initiator (Sends second_part) ∷ Does Initiator Marks ∷ Does Initiator (Sends third_part) ∷ Does Initiator EndsActivity ∷
    Gets Responder Nothing ∷ Gets Responder Nothing ∷ Gets Responder Nothing ∷ Gets Responder Nothing ∷ Gets Responder Nothing ∷
    Gets Initiator Nothing ∷ Gets Initiator Nothing ∷ [])

-- nothing is confirmed: the transfer is encoded anew
abbrev pub resumed_from_nothing : List Event
resumed_from_nothing =
    begun ++ (recovered ++ Does Initiator Resumes ∷ Does Initiator (Encodes 5) ∷ Does Initiator (Sends (first_part ++ second_part ++ third_part)) ∷ Does Initiator EndsActivity ∷
    Gets Responder Nothing ∷ Gets Responder Nothing ∷ Gets Responder Nothing ∷ Gets Initiator Nothing ∷ [])

-- all has come, and the confirmation of the end is lost with the connection
abbrev pub unconfirmed : List Event
unconfirmed =
    begun ++ Gets Initiator Nothing ∷ Does Initiator (Sends second_part) ∷ Does Initiator (Sends third_part) ∷ Does Initiator EndsActivity ∷
    Gets Responder Nothing ∷ Gets Responder Nothing ∷ Gets Responder Nothing ∷ (recovered ++ Does Initiator Resumes ∷ [])

-- what is resumed then isn't handed up again
abbrev pub completed_resumed : List Event
completed_resumed =
    unconfirmed ++ Does Initiator (Sends (second_part ++ third_part)) ∷ Does Initiator EndsActivity ∷
    Gets Responder Nothing ∷ Gets Responder Nothing ∷ Gets Responder Nothing ∷ Gets Initiator Nothing ∷ []

-- the initiator discards it, which cuts its invocation, and gives the turn
abbrev pub cut_but_arrived : List Event
cut_but_arrived =
    unconfirmed ++ Gets Responder Nothing ∷ Does Initiator Discards ∷ Gets Responder Nothing ∷ Gets Initiator Nothing ∷
    Does Initiator GivesTurn ∷ Gets Responder Nothing ∷ Gets Initiator Nothing ∷ []

-- the responder answers all the same, with this outcome of operation 1
abbrev pub answered_late : List ℕ → List Event
answered_late content =
    cut_but_arrived ++ Does Responder (Queues 5 (Outcome 1 content)) ∷ Does Responder Starts ∷ Does Responder (Encodes 5) ∷
    Does Responder (Sends (5 ∷ 1 ∷ 1 ∷ content)) ∷ Does Responder EndsActivity ∷ Gets Initiator Nothing ∷ Gets Initiator Nothing ∷ Gets Initiator Nothing ∷ []

abbrev pub late_result : List Event
late_result = answered_late (1 ∷ 0 ∷ [])

abbrev pub late_error : List Event
late_error = answered_late (1 ∷ 1 ∷ [])

-- a giving that a break cuts, before it is taken or after
abbrev pub giving_lost : List Event
giving_lost = opening ++ Does Initiator GivesTurn ∷ recovered

abbrev pub giving_taken : List Event
giving_taken = opening ++ Does Initiator GivesTurn ∷ Gets Responder Nothing ∷ recovered

-- a recovery whose acceptance is lost, and another one
abbrev pub recovery_broken : List Event
recovery_broken = begun ++ Cut ∷ Does Initiator Recovers ∷ Gets Responder (Accepting (with_five in_ber)) ∷ (recovered ++ Does Initiator Resumes ∷ Gets Responder Nothing ∷ [])

-- an invocation is answered
abbrev pub outcome : List ℕ → Value
outcome content = record { identifier = 5; pair = in_ber; apdu = Outcome 1 content }

abbrev pub invoked_once : List Event
invoked_once = opening ++ Does Initiator (SaysValue (invocation 1 in_ber)) ∷ Gets Responder Nothing ∷ []

abbrev pub answered_once : List Event
answered_once = invoked_once ++ Does Responder (SaysValue (outcome (1 ∷ 0 ∷ []))) ∷ Gets Initiator Nothing ∷ []

-- an opening with a context whose identifier no octets can have
abbrev pub with_wide : ContextSet
with_wide = acse_in_ber ∷ record { identifier = 40001; pair = in_ber } ∷ []

abbrev pub wide_opening : List Event
wide_opening = Does Initiator Connects ∷ Gets Responder (Accepting with_wide) ∷ Gets Initiator Nothing ∷ []

-- context 7 is offered in a syntax that the ends don't know, and in the packed one
abbrev pub in_unknown : Pair
in_unknown = module_in (2 ∷ 999 ∷ 5 ∷ 2 ∷ [])

abbrev pub offered_twice : List Event
offered_twice = opening ++ Does Initiator (Alters (Addition 7 (in_unknown ∷ in_packed ∷ []) ∷ [])) ∷ []

abbrev pub accepted_known : List Event
accepted_known = offered_twice ++ Gets Responder (Results (AcceptedAs in_packed ∷ [])) ∷ Gets Initiator Nothing ∷ []

-- context 5 is deleted and context 7 added before either is answered; the answers come in this order
abbrev pub adds : ℕ → Event
adds k = Does Initiator (Alters (Addition k (in_packed ∷ []) ∷ []))

abbrev pub two_in_flight : List Event
two_in_flight =
    opening ++ Does Initiator (Alters (Deletion 5 ∷ [])) ∷ adds 7 ∷ Gets Responder (Results (Accepted ∷ [])) ∷ Gets Responder (Results (AcceptedAs in_packed ∷ [])) ∷
    Gets Initiator Nothing ∷ []

abbrev pub two_answered : List Event
two_answered = two_in_flight ++ Gets Initiator Nothing ∷ []

-- four additions in flight, and a restart of the other end: all are lost
abbrev pub four_in_flight : List Event
four_in_flight = marked_once ++ adds 7 ∷ adds 9 ∷ adds 11 ∷ adds 13 ∷ []

abbrev pub four_lost : List Event
four_lost =
    four_in_flight ++ Does Responder (Restarts 2) ∷ Gets Responder Nothing ∷ Gets Responder Nothing ∷ Gets Responder Nothing ∷ Gets Responder Nothing ∷
    Gets Initiator Nothing ∷ Gets Responder Nothing ∷ []

-- a connection breaks, and then the initiator withdraws, or the new transport connection is refused
abbrev pub withdrawn : List Event
withdrawn = begun ++ Cut ∷ Does Initiator Withdraws ∷ []

abbrev pub refused_transport : List Event
refused_transport = begun ++ Cut ∷ Does Initiator TransportFails ∷ []

-- the state of an end after these events
abbrev pub end_of : Mode → IsFaithful → Role → List Event → State
end_of mode faithful role events = state_of (case_setup mode faithful) role (played (case_setup mode faithful) events)

abbrev pub Happens : Mode → List Event → Type 0
Happens mode events = (faithful : IsFaithful) → IsRun (case_setup mode faithful) (played (case_setup mode faithful) events)

-- P holds of the two ends after these events
abbrev pub Leaves : Mode → List Event → (State → State → Type 0) → Type 0
Leaves mode events P = (faithful : IsFaithful) → P (end_of mode faithful Initiator events) (end_of mode faithful Responder events)

-- the transfers that the responder handed up after these events are those of these activities, and the
-- invocations that it accepted have these numbers, the newest first
abbrev pub Arrive : Mode → List Event → List ℕ → List ℕ → Type 0
Arrive mode events activities invocations =
    (faithful : IsFaithful) →
    (arrived (case_setup mode faithful) Responder (played (case_setup mode faithful) events) ≡ activities) ×
    (invoked (case_setup mode faithful) Responder (played (case_setup mode faithful) events) ≡ invocations)

-- an end may not do this after these events
abbrev pub Refuses : Mode → List Event → Role → Act → Type 0
Refuses mode events role act = (faithful : IsFaithful) → MayAct (case_setup mode faithful) role (end_of mode faithful role events) act → ⊥

-- it may not decide so over this message
abbrev pub Declines : Mode → List Event → Role → Message → Choice → Type 0
Declines mode events role message choice = (faithful : IsFaithful) → IsChoice (case_setup mode faithful) (end_of mode faithful role events) message choice → ⊥

-- the initiator encoded for these activities, the newest first, and started these items
abbrev pub activities_of : List Encoding → List ℕ
activities_of [] = []
activities_of (encoding ∷ rest) = encoding.activity ∷ activities_of rest

abbrev pub Carries : Mode → List Event → List ℕ → List Handed → Type 0
Carries mode events activities items =
    (faithful : IsFaithful) →
    (activities_of (encodings (case_setup mode faithful) Initiator (played (case_setup mode faithful) events)) ≡ activities) ×
    (items_started (case_setup mode faithful) Initiator (played (case_setup mode faithful) events) ≡ items)
