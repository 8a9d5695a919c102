-- What an end may take, what it passes over, what it answers, and its state afterwards (X.225 7, X.226 6, X.228 8).
use Rattle.std.specs.Prelude.{◌≡◌, ℕ, suc, ◌≤◌, ◌⊎◌, Bool, true, false, not, ◌&&◌, ◌||◌, nat_eq, nat_lt, if◌then◌else◌, ◌++◌, length, List, [], ◌∷◌, Option, Some, None}
use Rattle.agreement.specs.Sets.{IsRising, AreKnown, IsKnownSet, Role, is_initiator, other, ContextSet, Item, Result, AnswersEach, AllMayBeAsked, AreDistinct, altered, identifiers, lookup, listed, below, newest, next_number}
use Rattle.agreement.specs.Sets.Role.{Initiator, Responder}
use Rattle.agreement.specs.Sets.Item.{Addition, Deletion}
use Rattle.agreement.specs.Messages.{Apdu, Calls, Value, Mode, ModelSetup, Message, Choice}
use Rattle.agreement.specs.Messages.Mode.{Bare, Direct, Reliable}
use Rattle.agreement.specs.Messages.Apdu.{Invoke}
use Rattle.agreement.specs.Messages.Message.{Connect, Recover, Accept, Refuse, Data, Alter, AlterAnswer, Mark, MarkAnswer, Restart, RestartAnswer, Start, Resume, Chunk, End, EndAnswer, Interrupt, InterruptAnswer, Discard, DiscardAnswer, Give, GiveAnswer, Please, Release, ReleaseAnswer, UserAbort}
use Rattle.agreement.specs.Messages.Choice.{Nothing, Accepting, Refusing, Results}
use Rattle.agreement.specs.State.{Phase, Awaited, Transfer, Incoming, State, up_to, highest, joined, cut_calls, new_end, joined_with}
use Rattle.agreement.specs.State.Phase.{Idle, Opening, Up, Releasing, Broken, Recovering, Over}
use Rattle.agreement.specs.State.Awaited.{NoAnswer, RestartOf, InterruptOf, DiscardOf, ReleaseOf}
use Rattle.agreement.specs.State.Piece.{Octets, Marked}
use Rattle.agreement.specs.State.Progress.{Ending, Suspended}
use Rattle.agreement.specs.Calls.{heard, rejects_of, close}
use Rattle.agreement.specs.Acts.{IsNotBare, on_transfer, resumed_set}

-- of two restarts that cross the one to the lower mark wins, on a tie the initiator's (this
-- project's own rule); role is the taker's, own its number
abbrev pub wins_against : Role → ℕ → ℕ → Bool
wins_against role own number = nat_lt number own || (nat_eq number own && not (is_initiator role))

-- while an own restart, interrupt, discard or release is unanswered, all is passed over but its
-- answer, a restart that wins, a release and an abort (X.225 7.24, 7.31, 7.33)
abbrev pub is_purged : Role → Awaited → Message → Bool
is_purged role NoAnswer message = false
is_purged role awaited Release = false
is_purged role awaited UserAbort = false
is_purged role (RestartOf own) (RestartAnswer number list) = false
is_purged role (RestartOf own) (Restart number list) = not (wins_against role own number)
is_purged role InterruptOf InterruptAnswer = false
is_purged role DiscardOf DiscardAnswer = false
is_purged role ReleaseOf ReleaseAnswer = false
is_purged role awaited message = true

-- the first own alteration, with what P asks of it
abbrev pub OnFirst : (List Item → Type 0) → List (List Item) → Type 0
OnFirst P [] = ⊥
OnFirst P (items ∷ rest) = P items

-- the items of an alteration's additions name each context once
abbrev pub additions : List Item → List Item
additions [] = []
additions (Addition k offers ∷ items) = Addition k offers ∷ additions items
additions (Deletion k ∷ items) = additions items

abbrev pub MayAlterFrom : Mode → Bool → Type 0
MayAlterFrom Bare turn = ⊥
MayAlterFrom Direct turn = Unit {0}
MayAlterFrom Reliable turn = turn ≡ false

-- a mark carries the next number, within the limit, and comes from the turn's holder; in reliable
-- mode in its activity
abbrev pub MayMarkFrom : ModelSetup → Mode → State → ℕ → Type 0
MayMarkFrom setup Bare state number = ⊥
MayMarkFrom setup Direct state number =
    record { lacks_turn : state.turn ≡ false; is_next : number ≡ next_number state.saved; is_within : number ≤ setup.most_marks }
MayMarkFrom setup Reliable state number =
    record {
      lacks_turn : state.turn ≡ false;
      is_active : state.incoming.active ≡ true;
      is_next : number ≡ suc (highest state.incoming.pieces);
      is_within : number ≤ setup.most_marks;
    }

abbrev pub MayGiveFrom : Mode → State → Type 0
MayGiveFrom Bare state = ⊥
MayGiveFrom Direct state = state.turn ≡ false
MayGiveFrom Reliable state = record { lacks_turn : state.turn ≡ false; rests : state.incoming.active ≡ false }

-- the lowest own mark that isn't confirmed, of the transfer in progress
abbrev pub IsNextConfirmed : Option Transfer → ℕ → Type 0
IsNextConfirmed None number = ⊥
IsNextConfirmed (Some transfer) number =
    record {
      is_in_progress : (transfer.progress ≡ Suspended) → ⊥;
      is_lowest : number ≡ suc transfer.confirmed;
      was_sent : number ≤ highest transfer.pieces;
    }

abbrev pub IsEndOf : Option Transfer → ℕ → Type 0
IsEndOf None number = ⊥
IsEndOf (Some transfer) number = record { ends : transfer.progress ≡ Ending; is_its : number ≡ suc (highest transfer.pieces) }

-- a resumption names the last activity and one of its marks, or 0; or the next activity and 0
abbrev pub MayResumeAt : Incoming → ℕ → ℕ → Type 0
MayResumeAt incoming activity mark =
    (activity ≡ incoming.last) × (mark ≤ highest incoming.pieces) ⊎ (activity ≡ suc incoming.last) × (mark ≡ 0)

-- what the octets of a transfer spell under the set
abbrev pub value_read : ModelSetup → ContextSet → Incoming → Option Value
value_read setup held incoming = setup.codec.read held (joined incoming.pieces)

-- a value may be taken under the set: it is there, under the pair that the set gives its context
abbrev pub IsReadUnder : ContextSet → Option Value → Type 0
IsReadUnder held None = ⊥
IsReadUnder held (Some value) = lookup held value.identifier ≡ Some value.pair

abbrev pub IsBack : Phase → Type 0
IsBack Opening = Unit {0}
IsBack Recovering = Unit {0}
IsBack phase = ⊥

abbrev pub IsUnjoined : Phase → Type 0
IsUnjoined Idle = Unit {0}
IsUnjoined Broken = Unit {0}
IsUnjoined phase = ⊥

-- may an end in this state take this message?
abbrev pub MayTake : ModelSetup → Role → State → Message → Type 0
MayTake setup role state Connect = record { responds : role ≡ Responder; is_unjoined : IsUnjoined state.phase }
MayTake setup role state Recover = record { responds : role ≡ Responder; is_unjoined : IsUnjoined state.phase }
MayTake setup role state (Accept set) =
    record { initiates : role ≡ Initiator; asked : IsBack state.phase; is_set : IsRising set; is_known : IsKnownSet setup.knows set }
MayTake setup role state Refuse = record { initiates : role ≡ Initiator; asked : IsBack state.phase }
MayTake setup role state (Data value) =
    record {
      at_once : (setup.mode ≡ Reliable) → ⊥;
      is_up : state.phase ≡ Up;
      is_read : lookup state.sets.held value.identifier ≡ Some value.pair;
    }
MayTake setup role state (Alter items) =
    record {
      is_up : state.phase ≡ Up;
      in_mode : MayAlterFrom setup.mode state.turn;
      once : AreDistinct (identifiers (additions items));
      may_be_asked : AllMayBeAsked (other role) state.sets.held items;
    }
MayTake setup role state (AlterAnswer results) =
    record { is_up : state.phase ≡ Up; fits : OnFirst (λ items. AnswersEach items results) state.sets.own; is_known : AreKnown setup.knows results }
MayTake setup role state (Mark number) =
    record { is_up : state.phase ≡ Up; in_mode : MayMarkFrom setup setup.mode state number }
MayTake setup role state (MarkAnswer number) =
    record { by_transfers : setup.mode ≡ Reliable; is_up : state.phase ≡ Up; is_next : IsNextConfirmed state.outgoing.transfer number }
MayTake setup role state (Restart number list) =
    record {
      is_direct : setup.mode ≡ Direct;
      is_up : state.phase ≡ Up;
      is_positive : 1 ≤ number;
      is_known : number ≤ next_number state.saved;
      is_same : list ≡ listed (newest (below number state.saved));
    }
MayTake setup role state (RestartAnswer number list) =
    record {
      is_direct : setup.mode ≡ Direct;
      is_up : state.phase ≡ Up;
      asked : state.awaits ≡ RestartOf number;
      is_same : list ≡ listed (newest (below number state.saved));
    }
MayTake setup role state (Start activity) =
    record {
      by_transfers : setup.mode ≡ Reliable;
      is_up : state.phase ≡ Up;
      lacks_turn : state.turn ≡ false;
      rests : state.incoming.active ≡ false;
      is_next : activity ≡ suc state.incoming.last;
    }
MayTake setup role state (Resume activity mark) =
    record {
      by_transfers : setup.mode ≡ Reliable;
      is_up : state.phase ≡ Up;
      lacks_turn : state.turn ≡ false;
      rests : state.incoming.active ≡ false;
      at_mark : MayResumeAt state.incoming activity mark;
    }
MayTake setup role state (Chunk octets) =
    record {
      by_transfers : setup.mode ≡ Reliable;
      is_up : state.phase ≡ Up;
      lacks_turn : state.turn ≡ false;
      is_active : state.incoming.active ≡ true;
      is_within : length (joined state.incoming.pieces ++ octets) ≤ setup.most_transferred;
    }
MayTake setup role state (End number) =
    record {
      by_transfers : setup.mode ≡ Reliable;
      is_up : state.phase ≡ Up;
      lacks_turn : state.turn ≡ false;
      is_active : state.incoming.active ≡ true;
      is_next : number ≡ suc (highest state.incoming.pieces);
      is_read : state.incoming.was_handed ≡ false → IsReadUnder state.sets.held (value_read setup state.sets.held state.incoming);
    }
MayTake setup role state (EndAnswer number) =
    record { by_transfers : setup.mode ≡ Reliable; is_up : state.phase ≡ Up; is_its : IsEndOf state.outgoing.transfer number }
MayTake setup role state Interrupt =
    record { by_transfers : setup.mode ≡ Reliable; is_up : state.phase ≡ Up; is_active : state.incoming.active ≡ true }
MayTake setup role state InterruptAnswer =
    record { by_transfers : setup.mode ≡ Reliable; is_up : state.phase ≡ Up; asked : state.awaits ≡ InterruptOf }
MayTake setup role state Discard =
    record { by_transfers : setup.mode ≡ Reliable; is_up : state.phase ≡ Up; is_active : state.incoming.active ≡ true }
MayTake setup role state DiscardAnswer =
    record { by_transfers : setup.mode ≡ Reliable; is_up : state.phase ≡ Up; asked : state.awaits ≡ DiscardOf }
MayTake setup role state Give = record { is_up : state.phase ≡ Up; in_mode : MayGiveFrom setup.mode state }
MayTake setup role state GiveAnswer = record { by_transfers : setup.mode ≡ Reliable; is_up : state.phase ≡ Up; asked : state.gave ≡ true }
MayTake setup role state (Please priority) = record { is_up : state.phase ≡ Up; in_mode : IsNotBare setup.mode }
MayTake setup role state Release =
    record {
      responds : role ≡ Responder;
      is_up : state.phase ≡ Up;
      rests : (setup.mode ≡ Reliable) → (state.turn ≡ false) × (state.incoming.active ≡ false);
    }
MayTake setup role state ReleaseAnswer = record { is_releasing : state.phase ≡ Releasing; asked : state.awaits ≡ ReleaseOf }
MayTake setup role state UserAbort = Unit {0}

-- what the taker may decide: over an opening freely, over a recovery where it has the association,
-- over an alteration by results that fit, each with transfer syntaxes that it knows; over nothing else
abbrev pub IsChoice : ModelSetup → State → Message → Choice → Type 0
IsChoice setup state Connect (Accepting set) = record { is_set : IsRising set; is_known : IsKnownSet setup.knows set }
IsChoice setup state Connect Refusing = Unit {0}
IsChoice setup state Recover (Accepting set) =
    record { has_it : state.phase ≡ Broken; is_set : IsRising set; is_known : IsKnownSet setup.knows set }
IsChoice setup state Recover Refusing = Unit {0}
IsChoice setup state (Alter items) (Results results) = record { fits : AnswersEach items results; is_known : AreKnown setup.knows results }
IsChoice setup state Connect choice = ⊥
IsChoice setup state Recover choice = ⊥
IsChoice setup state (Alter items) choice = ⊥
IsChoice setup state message Nothing = Unit {0}
IsChoice setup state message choice = ⊥

abbrev pub acceptance : Choice → List Message
acceptance (Accepting set) = Accept set ∷ []
acceptance Refusing = Refuse ∷ []
acceptance choice = []

abbrev pub results_of : Choice → List Message
results_of (Results results) = AlterAnswer results ∷ []
results_of choice = []

abbrev pub mark_answer : Mode → ℕ → List Message
mark_answer Bare number = []
mark_answer Direct number = []
mark_answer Reliable number = MarkAnswer number ∷ []

abbrev pub give_answer : Mode → List Message
give_answer Bare = []
give_answer Direct = []
give_answer Reliable = GiveAnswer ∷ []

-- what the end answers at once
abbrev pub answer_to : ModelSetup → State → Message → Choice → List Message
answer_to setup state Connect choice = acceptance choice
answer_to setup state Recover choice = acceptance choice
answer_to setup state (Alter items) choice = results_of choice
answer_to setup state (Mark number) choice = mark_answer setup.mode number
answer_to setup state (Restart number list) choice =
    RestartAnswer number (listed (newest (below number state.saved))) ∷ []
answer_to setup state (End number) choice = EndAnswer number ∷ []
answer_to setup state Interrupt choice = InterruptAnswer ∷ []
answer_to setup state Discard choice = DiscardAnswer ∷ []
answer_to setup state Give choice = give_answer setup.mode
answer_to setup state Release choice = ReleaseAnswer ∷ []
answer_to setup state message choice = []

-- after a restart: the set of the highest mark below, the marks below, no own alteration, no open
-- invocation, the turn at the initiator (this project's own rule, within X.225 7.24)
abbrev pub restored : Role → ℕ → State → State
restored role number state =
    record state {
      turn = is_initiator role;
      awaits = NoAnswer;
      sets = record state.sets { held = newest (below number state.saved); own = [] };
      saved = below number state.saved;
      outgoing = record state.outgoing { queue = [] };
      calls = cut_calls state.calls;
    }

-- what a taken APDU changes: the open invocations, and the rejects that are due
abbrev pub hears : ModelSetup → Option Value → State → State
hears setup None state = state
hears setup (Some value) state =
    record state {
      calls = heard setup state.calls value.identifier value.apdu;
      outgoing = record state.outgoing { queue = state.outgoing.queue ++ rejects_of setup state.calls value.identifier value.apdu };
    }

-- what is handed up at the end of a transfer: nothing where it was handed up before
abbrev pub handed_up : ModelSetup → ContextSet → Incoming → Option Value
handed_up setup held incoming = if incoming.was_handed then None else value_read setup held incoming

-- the value that is handed up as this message is taken
abbrev pub value_of : ModelSetup → State → Message → Option Value
value_of setup state (Data value) = Some value
value_of setup state (End number) = handed_up setup state.sets.held state.incoming
value_of setup state message = None

-- an activity ends at both ends with the inter-activity set (this project's own rule)
abbrev pub between : State → State
between state = record state { sets = record state.sets { held = state.sets.inter } }

abbrev pub ended : State → State
ended state = record state { phase = Over; calls = cut_calls state.calls }

abbrev pub altered_first : List (List Item) → List Result → ContextSet → ContextSet
altered_first [] results held = held
altered_first (items ∷ rest) results held = altered items results held

abbrev pub later : List (List Item) → List (List Item)
later [] = []
later (items ∷ rest) = rest

abbrev pub marked_from : Mode → ℕ → State → State
marked_from Bare number state = state
marked_from Direct number state =
    record state { saved = record { number = number; set = state.sets.held } ∷ state.saved }
marked_from Reliable number state =
    record state { incoming = record state.incoming { pieces = Marked number state.sets.held ∷ state.incoming.pieces } }

-- who refuses is over, but for a broken end, which stays so
abbrev pub refusing : Phase → Phase
refusing Broken = Broken
refusing phase = Over

-- an accepted opening begins anew; an accepted recovery goes on
abbrev pub opened_by : ModelSetup → Role → Choice → State → State
opened_by setup role (Accepting set) state = joined_with setup.mode role set (new_end setup role)
opened_by setup role Refusing state = record state { phase = refusing state.phase }
opened_by setup role choice state = state

abbrev pub recovered_by : ModelSetup → Role → Choice → State → State
recovered_by setup role (Accepting set) state = joined_with setup.mode role set state
recovered_by setup role Refusing state = record state { phase = refusing state.phase }
recovered_by setup role choice state = state

abbrev pub altered_by : List Item → Choice → State → State
altered_by items (Results results) state =
    record state { sets = record state.sets { held = altered items results state.sets.held } }
altered_by items choice state = state

-- the record of a resumed activity
abbrev pub resumed_in : ℕ → ℕ → Incoming → Incoming
resumed_in activity mark incoming =
    if nat_eq activity incoming.last
    then record incoming { pieces = up_to mark incoming.pieces; active = true }
    else record { last = activity; pieces = []; was_handed = false; active = true }

-- a discarded transfer is forgotten; an invocation in it is cut
abbrev pub cut_item : Option Transfer → Calls → Calls
cut_item None calls = calls
cut_item (Some transfer) calls = cut_apdu transfer.item.apdu calls
  where
    cut_apdu : Apdu → Calls → Calls
    cut_apdu (Invoke number operation link argument) calls = record calls { own_open = close number calls.own_open }
    cut_apdu apdu calls = calls

-- the state after a taking
abbrev pub taken : ModelSetup → Role → State → Message → Choice → State
taken setup role state Connect choice = opened_by setup role choice state
taken setup role state Recover choice = recovered_by setup role choice state
taken setup role state (Accept set) choice = joined_with setup.mode role set state
taken setup role state Refuse choice = record state { phase = Over }
taken setup role state (Data value) choice = hears setup (Some value) state
taken setup role state (Alter items) choice = altered_by items choice state
taken setup role state (AlterAnswer results) choice =
    record state { sets = record state.sets { held = altered_first state.sets.own results state.sets.held; own = later state.sets.own } }
taken setup role state (Mark number) choice = marked_from setup.mode number state
taken setup role state (MarkAnswer number) choice =
    record state { outgoing = on_transfer (λ transfer. record transfer { confirmed = number }) state.outgoing }
taken setup role state (Restart number list) choice = restored role number state
taken setup role state (RestartAnswer number list) choice = restored role number state
taken setup role state (Start activity) choice =
    record state {
      incoming = record { last = activity; pieces = []; was_handed = false; active = true };
      sets = record state.sets { inter = state.sets.held };
    }
taken setup role state (Resume activity mark) choice =
    record state {
      incoming = resumed_in activity mark state.incoming;
      sets = record state.sets { inter = state.sets.held; held = resumed_set mark state.incoming.pieces state.sets.held };
    }
taken setup role state (Chunk octets) choice =
    record state { incoming = record state.incoming { pieces = Octets octets ∷ state.incoming.pieces } }
taken setup role state (End number) choice =
    between (hears setup (handed_up setup state.sets.held state.incoming) (record state { incoming = record state.incoming { was_handed = true; active = false } }))
taken setup role state (EndAnswer number) choice =
    between (record state { outgoing = record state.outgoing { transfer = None } })
taken setup role state Interrupt choice = between (record state { incoming = record state.incoming { active = false } })
taken setup role state InterruptAnswer choice =
    between (record state {
      awaits = NoAnswer;
      sets = record state.sets { own = [] };
      outgoing = on_transfer (λ transfer. record transfer { progress = Suspended }) state.outgoing;
    })
taken setup role state Discard choice = between (record state { incoming = record state.incoming { pieces = []; active = false } })
taken setup role state DiscardAnswer choice =
    between (record state {
      awaits = NoAnswer;
      sets = record state.sets { own = [] };
      calls = cut_item state.outgoing.transfer state.calls;
      outgoing = record state.outgoing { transfer = None };
    })
taken setup role state Give choice = record state { turn = true; gave = false }
taken setup role state GiveAnswer choice = record state { gave = false }
taken setup role state (Please priority) choice = state
taken setup role state Release choice = ended state
taken setup role state ReleaseAnswer choice = record (ended state) { awaits = NoAnswer }
taken setup role state UserAbort choice = ended state

-- a connection that breaks leaves a reliable association broken, once it stood, and another over; a
-- transfer in progress is suspended, and out of reliable mode the open invocations are cut (this
-- project's own rule)
abbrev pub broken_phase : Mode → Phase → Phase
broken_phase mode Idle = Idle
broken_phase mode Over = Over
broken_phase mode Opening = Over
broken_phase Reliable phase = Broken
broken_phase mode phase = Over

abbrev pub broken_calls : Mode → Calls → Calls
broken_calls Bare calls = cut_calls calls
broken_calls Direct calls = cut_calls calls
broken_calls Reliable calls = calls

abbrev pub broken : ModelSetup → State → State
broken setup state =
    record state {
      phase = broken_phase setup.mode state.phase;
      gave = false;
      awaits = NoAnswer;
      outgoing = on_transfer (λ transfer. record transfer { progress = Suspended }) state.outgoing;
      incoming = record state.incoming { active = false };
      calls = broken_calls setup.mode state.calls;
    }
