-- The laws of two ends, over every world that they can reach.
use Rattle.std.specs.Prelude.{◌≡◌, ℕ, suc, ◌<◌, ◌≤◌, nat_eq, length, true, false, if◌then◌else◌, ◌⊎◌, ◌++◌, List, [], ◌∷◌, Option, Some, None}
use Rattle.osi_base.specs.Limits.{most_alterations}
use Rattle.agreement.specs.Sets.{Pair, Role, ContextSet, IsKnownSet, other, lookup, AreDistinct, is_among, identifiers, named}
use Rattle.agreement.specs.Sets.Role.{Initiator, Responder}
use Rattle.agreement.specs.Messages.{Apdu, Invocation, Calls, Value, ModelSetup, Message, Choice}
use Rattle.agreement.specs.Messages.Message.{Accept, Connect, End}
use Rattle.agreement.specs.Messages.Act.{Alters, GivesTurn, SaysValue, Queues, Starts, Encodes}
use Rattle.agreement.specs.Messages.Choice.{Accepting}
use Rattle.agreement.specs.Messages.Apdu.{Invoke, Outcome, Reject}
use Rattle.agreement.specs.State.{Phase, Awaited, Handed, Transfer, State}
use Rattle.agreement.specs.State.Phase.{Up, Releasing}
use Rattle.agreement.specs.State.Awaited.{RestartOf}
use Rattle.agreement.specs.Acts.{IsNotBare}
use Rattle.agreement.specs.Takings.{MayTake, value_of, handed_up}
use Rattle.agreement.specs.Calls.{is_open, may_answer, is_accepted}
use Rattle.agreement.specs.Worlds.{Step, World, if_same, state_of, Sending, sent_by_step, shared_at, pair_under, IsRun}
use Rattle.agreement.specs.Worlds.Step.{Acts, Takes, Passes}
use Rattle.agreement.specs.Worlds.Moment.{By, Break}

-- a message with the pair of its presentation value
pub record Mail : Type 0 where
  pub message : Message
  pub pair : Option Pair

-- what was sent to an end on this connection, the oldest first, each with the pair that the shared
-- set gave just before the sending
abbrev pub mails : List Sending → List Mail
mails [] = []
mails (sending ∷ rest) = record { message = sending.message; pair = pair_under sending.shared sending.message } ∷ mails rest

abbrev pub mail_to : ModelSetup → Role → World → List Mail
mail_to setup role [] = []
mail_to setup role (Break ∷ world) = []
mail_to setup role (By who step ∷ world) =
    if_same role who (mail_to setup role world) (mail_to setup role world ++ mails (sent_by_step setup who world step))

-- what an end took of it, each with the pair that its own set gave; nothing where it passed it over
abbrev pub read_in : State → Step → List (Option Mail)
read_in state (Acts act) = []
read_in state (Takes message choice) = Some (record { message = message; pair = pair_under state.sets.held message }) ∷ []
read_in state (Passes message) = None ∷ []

abbrev pub readings : ModelSetup → Role → World → List (Option Mail)
readings setup role [] = []
readings setup role (Break ∷ world) = []
readings setup role (By who step ∷ world) =
    if_same role who (readings setup role world ++ read_in (state_of setup role world) step) (readings setup role world)

-- each reading is the mail in its place
abbrev pub AreAsSent : List (Option Mail) → List Mail → Type 0
AreAsSent [] mail = Unit {0}
AreAsSent (reading ∷ readings) [] = ⊥
AreAsSent (None ∷ readings) (first ∷ mail) = AreAsSent readings mail
AreAsSent (Some reading ∷ readings) (first ∷ mail) = (reading ≡ first) × AreAsSent readings mail

-- taken as sent: each message taken is the one sent in its place of the connection, and each value
-- was read under the pair that the shared set gave its context at its sending
abbrev pub TakenAsSent : ModelSetup → Type 0
TakenAsSent setup = (world : World) → IsRun setup world → (role : Role) → AreAsSent (readings setup role world) (mail_to setup role world)

-- no abort of itself: each message taken, and not passed over, may be taken
abbrev pub NoAbortOfItself : ModelSetup → Type 0
NoAbortOfItself setup =
    (world : World) (role : Role) (message : Message) (choice : Choice) → IsRun setup (By role (Takes message choice) ∷ world) →
    MayTake setup role (state_of setup role world) message

-- a context that is left alone: each acceptance gives its identifier this pair, and no alteration that
-- an end asks for names it
abbrev pub LeavesAlone : ℕ → Pair → Step → Type 0
LeavesAlone k pair (Takes message (Accepting set)) = lookup set k ≡ Some pair
LeavesAlone k pair (Acts (Alters items)) = is_among k (identifiers items) ≡ false
LeavesAlone k pair step = Unit {0}

abbrev pub IsLeftAlone : ℕ → Pair → World → Type 0
IsLeftAlone k pair [] = Unit {0}
IsLeftAlone k pair (Break ∷ world) = IsLeftAlone k pair world
IsLeftAlone k pair (By who step ∷ world) = LeavesAlone k pair step × IsLeftAlone k pair world

abbrev pub IsJoined : Phase → Type 0
IsJoined Up = Unit {0}
IsJoined Releasing = Unit {0}
IsJoined phase = ⊥

-- contexts stay: one that is left alone, as those of the association and of transfers, has its pair in
-- the set of each end that is up or releasing, and in the shared set
abbrev pub ContextsStay : ModelSetup → Type 0
ContextsStay setup =
    IsNotBare setup.mode → (world : World) → IsRun setup world → (k : ℕ) (pair : Pair) → IsLeftAlone k pair world → (role : Role) →
    IsJoined (state_of setup role world).phase →
    (lookup (state_of setup role world).sets.held k ≡ Some pair) × (lookup (shared_at setup world).set k ≡ Some pair)

-- an end holds the turn where it is up and doesn't wait for a restart
abbrev pub IsNotRestarting : Awaited → Type 0
IsNotRestarting (RestartOf number) = ⊥
IsNotRestarting awaited = Unit {0}

abbrev pub HoldsTurn : State → Type 0
HoldsTurn state = (state.turn ≡ true) × (state.phase ≡ Up) × IsNotRestarting state.awaits

-- one holder of the turn
abbrev pub OneHolder : ModelSetup → Type 0
OneHolder setup =
    (world : World) → IsRun setup world → HoldsTurn (state_of setup Initiator world) → HoldsTurn (state_of setup Responder world) → ⊥

-- since its acceptance an end has given the turn to nobody
abbrev pub HasNotGiven : World → Type 0
HasNotGiven [] = Unit {0}
HasNotGiven (By Initiator (Acts GivesTurn) ∷ later) = ⊥
HasNotGiven (moment ∷ later) = HasNotGiven later

-- after an acceptance that the initiator took, of an opening or of a recovery, it has the turn
-- whenever it is up, until it gives
abbrev pub InitiatorLeads : ModelSetup → Type 0
InitiatorLeads setup =
    (later earlier : World) (set : ContextSet) (choice : Choice) → HasNotGiven later →
    (state_of setup Initiator (later ++ (By Initiator (Takes (Accept set) choice) ∷ earlier))).phase ≡ Up →
    (state_of setup Initiator (later ++ (By Initiator (Takes (Accept set) choice) ∷ earlier))).turn ≡ true

-- the invocation that an APDU is the outcome of, where it is accepted: of a result, an error, or a reject of
-- the invocation (X.880 9)
abbrev pub outcome_in : Apdu → List ℕ
outcome_in (Invoke number operation link argument) = []
outcome_in (Outcome number content) = number ∷ []
outcome_in (Reject number problem) = number ∷ []

abbrev pub outcomes_told_by : ModelSetup → State → Option Value → List ℕ
outcomes_told_by setup state None = []
outcomes_told_by setup state (Some value) = if is_accepted setup state.calls value.apdu then outcome_in value.apdu else []

-- the outcomes that an end was told since its association began, the newest first
abbrev pub outcomes_told_after : ModelSetup → State → Step → List ℕ → List ℕ
outcomes_told_after setup state (Acts act) before = before
outcomes_told_after setup state (Passes message) before = before
outcomes_told_after setup state (Takes Connect (Accepting set)) before = []
outcomes_told_after setup state (Takes message choice) before = outcomes_told_by setup state (value_of setup state message) ++ before

abbrev pub outcomes_told : ModelSetup → Role → World → List ℕ
outcomes_told setup role [] = []
outcomes_told setup role (Break ∷ world) = outcomes_told setup role world
outcomes_told setup role (By who step ∷ world) =
    if_same role who (outcomes_told_after setup (state_of setup role world) step (outcomes_told setup role world)) (outcomes_told setup role world)

-- one outcome: no invocation gets two
abbrev pub OneOutcome : ModelSetup → Type 0
OneOutcome setup = (world : World) → IsRun setup world → (role : Role) → AreDistinct (outcomes_told setup role world)

-- what was handed in at an end, the newest first
abbrev pub handed_by : Step → List Apdu
handed_by (Acts (SaysValue value)) = value.apdu ∷ []
handed_by (Acts (Queues context apdu)) = apdu ∷ []
handed_by step = []

abbrev pub all_handed : Role → World → List Apdu
all_handed role [] = []
all_handed role (Break ∷ world) = all_handed role world
all_handed role (By who step ∷ world) = if_same role who (handed_by step ++ all_handed role world) (all_handed role world)

abbrev pub IsAmong : Apdu → List Apdu → Type 0
IsAmong apdu [] = ⊥
IsAmong apdu (first ∷ rest) = (first ≡ apdu) ⊎ IsAmong apdu rest

-- an invocation or an outcome was handed in; a reject is made by the end itself
abbrev pub IsHandedIn : List Apdu → Apdu → Type 0
IsHandedIn handed (Invoke number operation link argument) = IsAmong (Invoke number operation link argument) handed
IsHandedIn handed (Outcome number content) = IsAmong (Outcome number content) handed
IsHandedIn handed (Reject number problem) = Unit {0}

-- the other side's own: each invocation and each outcome that is handed up is one that was handed in
-- at the other end
abbrev pub TheOthersOwn : ModelSetup → Type 0
TheOthersOwn setup =
    (world : World) (role : Role) (message : Message) (choice : Choice) (value : Value) → IsRun setup (By role (Takes message choice) ∷ world) →
    value_of setup (state_of setup role world) message ≡ Some value → IsHandedIn (all_handed (other role) world) value.apdu

-- the invocations of which an end handed in an outcome since its association began, the newest first
abbrev pub answer_in : Apdu → List ℕ
answer_in (Outcome number content) = number ∷ []
answer_in apdu = []

abbrev pub answered_after : Step → List ℕ → List ℕ
answered_after (Acts (SaysValue value)) answered = answer_in value.apdu ++ answered
answered_after (Acts (Queues context apdu)) answered = answer_in apdu ++ answered
answered_after (Takes Connect (Accepting set)) answered = []
answered_after step answered = answered

abbrev pub answered : Role → World → List ℕ
answered role [] = []
answered role (Break ∷ world) = answered role world
answered role (By who step ∷ world) = if_same role who (answered_after step (answered role world)) (answered role world)

-- each invocation is answered at most once, so the outcome of one that is handed up is the one that
-- was handed in
abbrev pub AnsweredOnce : ModelSetup → Type 0
AnsweredOnce setup = (world : World) → IsRun setup world → (role : Role) → AreDistinct (answered role world)

-- the operation of the open invocation with this number
abbrev pub operation_of : ℕ → List Invocation → Option ℕ
operation_of number [] = None
operation_of number (call ∷ calls) = if nat_eq call.number number then Some call.operation else operation_of number calls

-- an outcome that an end handed in, with the operation of the invocation that it answers, as that stood open there
pub record Answer : Type 0 where
  pub number : ℕ
  pub content : List ℕ
  pub operation : Option ℕ

abbrev pub answer_with : State → Apdu → List Answer
answer_with state (Outcome number content) =
    record { number = number; content = content; operation = operation_of number state.calls.peer_open } ∷ []
answer_with state apdu = []

abbrev pub answers_by : State → Step → List Answer
answers_by state (Acts (SaysValue value)) = answer_with state value.apdu
answers_by state (Acts (Queues context apdu)) = answer_with state apdu
answers_by state step = []

-- the outcomes that an end handed in, the newest first
abbrev pub answers : ModelSetup → Role → World → List Answer
answers setup role [] = []
answers setup role (Break ∷ world) = answers setup role world
answers setup role (By who step ∷ world) =
    if_same role who (answers_by (state_of setup role world) step ++ answers setup role world) (answers setup role world)

abbrev pub IsAnAnswer : Answer → List Answer → Type 0
IsAnAnswer answer [] = ⊥
IsAnAnswer answer (first ∷ rest) = (first ≡ answer) ⊎ IsAnAnswer answer rest

-- one operation: where an outcome is accepted, the open invocation that it answers has the operation that it had
-- at the end that answered, and this operation has that outcome
abbrev pub OneOperation : ModelSetup → Type 0
OneOperation setup =
    (world : World) (role : Role) (message : Message) (choice : Choice) (value : Value) (number : ℕ) (content : List ℕ) →
    IsRun setup (By role (Takes message choice) ∷ world) → value_of setup (state_of setup role world) message ≡ Some value →
    value.apdu ≡ Outcome number content → is_open number (state_of setup role world).calls.own_open ≡ true →
    IsAnAnswer (record { number = number; content = content; operation = operation_of number (state_of setup role world).calls.own_open }) (answers setup (other role) world) ×
    (may_answer setup (state_of setup role world).calls.own_open number content ≡ true)

-- one invocation: an end hands in at most one under each number, so its link and its argument, too, are at both ends
-- those that were handed in
abbrev pub OneInvocation : ModelSetup → Type 0
OneInvocation setup =
    (world : World) (role : Role) (number operation operation' : ℕ) (link link' : Option ℕ) (argument argument' : List ℕ) → IsRun setup world →
    IsAmong (Invoke number operation link argument) (all_handed role world) → IsAmong (Invoke number operation' link' argument') (all_handed role world) →
    Invoke number operation link argument ≡ Invoke number operation' link' argument'

-- an item as it was encoded: its activity, its APDU, its context, and the pair that the shared set
-- gave that just then
pub record Encoding : Type 0 where
  pub activity : ℕ
  pub apdu : Apdu
  pub identifier : ℕ
  pub pair : Option Pair

abbrev pub encoding_of : Option Transfer → ℕ → ContextSet → ℕ → List Encoding
encoding_of None activity shared context = []
encoding_of (Some transfer) activity shared context =
    record { activity = activity; apdu = transfer.item.apdu; identifier = context; pair = lookup shared context } ∷ []

abbrev pub encoded_by : State → ContextSet → Step → List Encoding
encoded_by state shared (Acts (Encodes context)) = encoding_of state.outgoing.transfer state.outgoing.started shared context
encoded_by state shared step = []

-- what an end encoded, the newest first
abbrev pub encodings : ModelSetup → Role → World → List Encoding
encodings setup role [] = []
encodings setup role (Break ∷ world) = encodings setup role world
encodings setup role (By who step ∷ world) =
    if_same role who (encoded_by (state_of setup role world) (shared_at setup world).set step ++ encodings setup role world) (encodings setup role world)

abbrev pub IsNewest : Encoding → List Encoding → Type 0
IsNewest encoding [] = ⊥
IsNewest encoding (first ∷ rest) = first ≡ encoding

-- transfers arrive whole: what is handed up at the end of an activity is the item of that activity,
-- as it was last encoded, read under the pair that the shared set gave then
abbrev pub ArriveWhole : ModelSetup → Type 0
ArriveWhole setup =
    (world : World) (role : Role) (number : ℕ) (choice : Choice) (value : Value) → IsRun setup (By role (Takes (End number) choice) ∷ world) →
    handed_up setup (state_of setup role world).sets.held (state_of setup role world).incoming ≡ Some value →
    IsNewest (record { activity = (state_of setup role world).incoming.last; apdu = value.apdu; identifier = value.identifier; pair = Some value.pair }) (encodings setup (other role) world)

-- the items that an end started since its association began, the newest first: the k-th is that of its activity k
abbrev pub next_queued : List Handed → List Handed
next_queued [] = []
next_queued (item ∷ items) = item ∷ []

abbrev pub started_after : State → Step → List Handed → List Handed
started_after state (Acts Starts) items = next_queued state.outgoing.queue ++ items
started_after state (Takes Connect (Accepting set)) items = []
started_after state step items = items

abbrev pub items_started : ModelSetup → Role → World → List Handed
items_started setup role [] = []
items_started setup role (Break ∷ world) = items_started setup role world
items_started setup role (By who step ∷ world) =
    if_same role who (started_after (state_of setup role world) step (items_started setup role world)) (items_started setup role world)

abbrev pub item_of : ℕ → List Handed → Option Handed
item_of k [] = None
item_of k (item ∷ items) = if nat_eq k (suc (length items)) then Some item else item_of k items

abbrev pub IsOf : Apdu → Option Handed → Type 0
IsOf apdu None = ⊥
IsOf apdu (Some item) = item.apdu ≡ apdu

-- items of activities: what was last encoded for an activity is the item that was started as that activity
abbrev pub ItemsOfActivities : ModelSetup → Type 0
ItemsOfActivities setup =
    (world : World) (role : Role) (encoding : Encoding) → IsRun setup world → IsNewest encoding (encodings setup role world) →
    IsOf encoding.apdu (item_of encoding.activity (items_started setup role world))

-- the activities whose transfers were handed up at an end since its association began, the newest first
abbrev pub arrived_of : Option Value → ℕ → List ℕ
arrived_of None activity = []
arrived_of (Some value) activity = activity ∷ []

abbrev pub arrived_after : ModelSetup → State → Step → List ℕ → List ℕ
arrived_after setup state (Takes (End number) choice) arrived =
    arrived_of (handed_up setup state.sets.held state.incoming) state.incoming.last ++ arrived
arrived_after setup state (Takes Connect (Accepting set)) arrived = []
arrived_after setup state step arrived = arrived

abbrev pub arrived : ModelSetup → Role → World → List ℕ
arrived setup role [] = []
arrived setup role (Break ∷ world) = arrived setup role world
arrived setup role (By who step ∷ world) =
    if_same role who (arrived_after setup (state_of setup role world) step (arrived setup role world)) (arrived setup role world)

abbrev pub AreFalling : List ℕ → Type 0
AreFalling [] = Unit {0}
AreFalling (n ∷ []) = Unit {0}
AreFalling (n ∷ m ∷ rest) = (m < n) × AreFalling (m ∷ rest)

-- transfers arrive at most once, in rising numbers
abbrev pub ArriveOnce : ModelSetup → Type 0
ArriveOnce setup = (world : World) → IsRun setup world → (role : Role) → AreFalling (arrived setup role world)

-- an open invocation has this number, and its operation may have this one as a child (X.880 8.2.6)
abbrev pub HasParent : ModelSetup → List Invocation → ℕ → ℕ → Type 0
HasParent setup [] operation parent = ⊥
HasParent setup (call ∷ calls) operation parent =
    (call.number ≡ parent) × (setup.links call.operation operation ≡ true) ⊎ HasParent setup calls operation parent

-- what an accepted APDU names: an invocation whose number isn't open yet, and whose link is an open
-- invocation of the taker that may have it as a child; an outcome or a reject of an open invocation of
-- the taker (X.880 8.2.6, 9)
abbrev pub NamesOpen : ModelSetup → Calls → Apdu → Type 0
NamesOpen setup calls (Invoke number operation None argument) = is_open number calls.peer_open ≡ false
NamesOpen setup calls (Invoke number operation (Some parent) argument) =
    (is_open number calls.peer_open ≡ false) × HasParent setup calls.own_open operation parent
NamesOpen setup calls (Outcome number content) = is_open number calls.own_open ≡ true
NamesOpen setup calls (Reject number problem) = is_open number calls.own_open ≡ true

-- what is accepted names what is open
abbrev pub AcceptedNamesOpen : ModelSetup → Type 0
AcceptedNamesOpen setup = (calls : Calls) (apdu : Apdu) → is_accepted setup calls apdu ≡ true → NamesOpen setup calls apdu

-- the numbers of the invocations that an end accepted since its association began, the newest first
abbrev pub invocation_in : Apdu → List ℕ
invocation_in (Invoke number operation link argument) = number ∷ []
invocation_in apdu = []

abbrev pub invoked_by : ModelSetup → State → Option Value → List ℕ
invoked_by setup state None = []
invoked_by setup state (Some value) = if is_accepted setup state.calls value.apdu then invocation_in value.apdu else []

abbrev pub invoked_after : ModelSetup → State → Step → List ℕ → List ℕ
invoked_after setup state (Acts act) invoked = invoked
invoked_after setup state (Passes message) invoked = invoked
invoked_after setup state (Takes Connect (Accepting set)) invoked = []
invoked_after setup state (Takes message choice) invoked = invoked_by setup state (value_of setup state message) ++ invoked

abbrev pub invoked : ModelSetup → Role → World → List ℕ
invoked setup role [] = []
invoked setup role (Break ∷ world) = invoked setup role world
invoked setup role (By who step ∷ world) =
    if_same role who (invoked_after setup (state_of setup role world) step (invoked setup role world)) (invoked setup role world)

-- each invocation is taken at most once: their numbers rise
abbrev pub InvokedOnce : ModelSetup → Type 0
InvokedOnce setup = (world : World) → IsRun setup world → (role : Role) → AreFalling (invoked setup role world)

-- alterations are few: an end has at most four unanswered ones, and no identifier is named twice in them
abbrev pub AlterationsAreFew : ModelSetup → Type 0
AlterationsAreFew setup =
    (world : World) → IsRun setup world → (role : Role) →
    (length (state_of setup role world).sets.own ≤ most_alterations) × AreDistinct (named (state_of setup role world).sets.own)

-- contexts are known: out of bare mode each context of an end's set and of the shared set has a transfer syntax that
-- the ends know
abbrev pub ContextsAreKnown : ModelSetup → Type 0
ContextsAreKnown setup =
    IsNotBare setup.mode → (world : World) → IsRun setup world →
    record {
      initiator : IsKnownSet setup.knows (state_of setup Initiator world).sets.held;
      responder : IsKnownSet setup.knows (state_of setup Responder world).sets.held;
      shared : IsKnownSet setup.knows (shared_at setup world).set;
    }
