-- What an end may do of itself, what it sends then, and its state afterwards (X.225 7, X.226 6, X.228 8).
use Rattle.std.specs.Prelude.{◌≡◌, ℕ, suc, zero, ◌<◌, ◌≤◌, true, false, ◌++◌, length, List, [], ◌∷◌, Option, Some, None}
use Rattle.osi_base.specs.Limits.{most_alterations}
use Rattle.agreement.specs.Sets.{Pair, Role, ContextSet, AllMayAsk, AreDistinct, named, some_deletes, lookup, listed, below, newest, next_number}
use Rattle.agreement.specs.Sets.Role.{Initiator}
use Rattle.agreement.specs.Messages.{Value, Mode, ModelSetup, Codec, Message, Act}
use Rattle.agreement.specs.Messages.Mode.{Bare, Direct, Reliable}
use Rattle.agreement.specs.Messages.Message.{Connect, Recover, Data, Alter, Mark, Give, Please, Restart, Start, Chunk, End, Interrupt, Discard, Resume, Release, UserAbort}
use Rattle.agreement.specs.Messages.Act.{Connects, Recovers, SaysValue, Queues, Drops, Alters, Marks, GivesTurn, Pleads, Restarts, Starts, Encodes, Sends, EndsActivity, Interrupts, Discards, Resumes, Releases, Aborts, Withdraws, TransportFails}
use Rattle.agreement.specs.State.{Phase, Piece, Progress, Handed, Transfer, Outgoing, State, up_to, newest_set, highest, joined, cut_calls}
use Rattle.agreement.specs.State.Phase.{Idle, Opening, Up, Releasing, Broken, Recovering, Over}
use Rattle.agreement.specs.State.Awaited.{NoAnswer, RestartOf, InterruptOf, DiscardOf, ReleaseOf}
use Rattle.agreement.specs.State.Piece.{Octets, Marked}
use Rattle.agreement.specs.State.Progress.{Running, Ending, Suspended}
use Rattle.agreement.specs.Calls.{MayHandIn, handed_in, after_due, due_after, contexts_of_calls, contexts_of_items}

abbrev pub has_progress : Progress → Option Transfer → Type 0
has_progress progress None = ⊥
has_progress progress (Some transfer) = transfer.progress ≡ progress

-- no transfer is in progress: none at all, or a suspended one
abbrev pub RestsOrNone : Option Transfer → Type 0
RestsOrNone None = Unit {0}
RestsOrNone (Some transfer) = transfer.progress ≡ Suspended

abbrev pub IsNotEnding : Option Transfer → Type 0
IsNotEnding None = Unit {0}
IsNotEnding (Some transfer) = (transfer.progress ≡ Ending) → ⊥

-- the running transfer, once it is encoded, with what P asks of its octets so far and of the whole
abbrev pub OnEncoded : (List ℕ → List ℕ → Type 0) → Codec → List Piece → Option Value → Type 0
OnEncoded P codec pieces None = ⊥
OnEncoded P codec pieces (Some value) = P (joined pieces) (codec.written value)

abbrev pub OnRunning : (List ℕ → List ℕ → Type 0) → Codec → Option Transfer → Type 0
OnRunning P codec None = ⊥
OnRunning P codec (Some transfer) = (transfer.progress ≡ Running) × OnEncoded P codec transfer.pieces transfer.value

-- a running transfer that isn't encoded yet
abbrev pub IsUnencoded : Option Transfer → Type 0
IsUnencoded None = ⊥
IsUnencoded (Some transfer) = (transfer.progress ≡ Running) × (transfer.value ≡ None)

-- the item on this context, under the pair that the set gives it
abbrev pub value_on : ℕ → Handed → Option Pair → Option Value
value_on context item None = None
value_on context item (Some pair) = Some (record { identifier = context; pair = pair; apdu = item.apdu })

-- there is such a value, and the codec may write it
abbrev pub IsWritable : Codec → Option Value → Type 0
IsWritable codec None = ⊥
IsWritable codec (Some value) = codec.may_write value ≡ true

-- the item of the transfer may be written on this context
abbrev pub MayEncode : Codec → ℕ → ContextSet → Option Transfer → Type 0
MayEncode codec context held None = ⊥
MayEncode codec context held (Some transfer) = IsWritable codec (value_on context transfer.item (lookup held context))

-- the context on which a transfer in progress is encoded; a suspended one needs none, since its
-- resumption brings back a mark's set or encodes anew
abbrev pub context_of_value : Option Value → List ℕ
context_of_value None = []
context_of_value (Some value) = value.identifier ∷ []

abbrev pub context_in_progress : Progress → Option Value → List ℕ
context_in_progress Suspended value = []
context_in_progress Running value = context_of_value value
context_in_progress Ending value = context_of_value value

abbrev pub context_of_transfer : Option Transfer → List ℕ
context_of_transfer None = []
context_of_transfer (Some transfer) = context_in_progress transfer.progress transfer.value

-- in reliable mode the queue has items to be transferred; else it keeps no more than due rejects
abbrev pub contexts_of_queue : Mode → List Handed → List ℕ
contexts_of_queue Bare queue = []
contexts_of_queue Direct queue = []
contexts_of_queue Reliable queue = contexts_of_items queue

-- the contexts in use (this project's own rule): those of open invocations, of queued items, and
-- the one on which the transfer in progress is encoded
abbrev pub used : Mode → State → List ℕ
used mode state =
    context_of_transfer state.outgoing.transfer ++ contexts_of_calls state.calls.own_open ++
    contexts_of_calls state.calls.peer_open ++ contexts_of_queue mode state.outgoing.queue

-- up, and nothing is awaited
abbrev pub IsFree : State → Type 0
IsFree state = record { is_up : state.phase ≡ Up; is_calm : state.awaits ≡ NoAnswer }

abbrev pub IsNotBare : Mode → Type 0
IsNotBare Bare = ⊥
IsNotBare Direct = Unit {0}
IsNotBare Reliable = Unit {0}

-- free, with the turn, and no own alteration is unanswered: so an end sends by itself
abbrev pub Leads : State → Type 0
Leads state = record { is_free : IsFree state; has_turn : state.turn ≡ true; is_settled : state.sets.own ≡ [] }

abbrev pub pieces_of : Option Transfer → List Piece
pieces_of None = []
pieces_of (Some transfer) = transfer.pieces

-- what the mode asks besides of an alteration, a mark, a giving
abbrev pub MayAlterIn : Mode → State → Type 0
MayAlterIn Bare state = ⊥
MayAlterIn Direct state = Unit {0}
MayAlterIn Reliable state = (state.turn ≡ true) × IsNotEnding state.outgoing.transfer

abbrev pub MayMarkIn : ModelSetup → Mode → State → Type 0
MayMarkIn setup Bare state = ⊥
MayMarkIn setup Direct state = next_number state.saved ≤ setup.most_marks
MayMarkIn setup Reliable state =
    OnRunning (λ sent all. Unit {0}) setup.codec state.outgoing.transfer × (suc (highest (pieces_of state.outgoing.transfer)) ≤ setup.most_marks)

abbrev pub MayGiveIn : Mode → State → Type 0
MayGiveIn Bare state = ⊥
MayGiveIn Direct state = Unit {0}
MayGiveIn Reliable state = RestsOrNone state.outgoing.transfer

abbrev pub MayReleaseIn : Mode → State → Type 0
MayReleaseIn Bare state = ⊥
MayReleaseIn Direct state = Unit {0}
MayReleaseIn Reliable state = (state.turn ≡ true) × (state.outgoing.transfer ≡ None) × (state.outgoing.queue ≡ [])

abbrev pub MayAbortIn : Phase → Type 0
MayAbortIn Idle = ⊥
MayAbortIn Opening = Unit {0}
MayAbortIn Up = Unit {0}
MayAbortIn Releasing = Unit {0}
MayAbortIn Broken = ⊥
MayAbortIn Recovering = Unit {0}
MayAbortIn Over = ⊥

-- before a CN was sent or taken: at first, and while an initiator brings a new connection about
abbrev pub MayWithdrawIn : Role → Phase → Type 0
MayWithdrawIn role Idle = Unit {0}
MayWithdrawIn role Broken = role ≡ Initiator
MayWithdrawIn role phase = ⊥

-- may an end in this state do this of itself?
abbrev pub MayAct : ModelSetup → Role → State → Act → Type 0
MayAct setup role state Connects = record { initiates : role ≡ Initiator; is_idle : state.phase ≡ Idle }
MayAct setup role state Recovers = record { initiates : role ≡ Initiator; is_broken : state.phase ≡ Broken }
MayAct setup role state (SaysValue value) =
    record {
      at_once : (setup.mode ≡ Reliable) → ⊥;
      is_free : IsFree state;
      is_there : lookup state.sets.held value.identifier ≡ Some value.pair;
      is_kept : some_deletes value.identifier state.sets.own ≡ false;
      is_writable : setup.codec.may_write value ≡ true;
      may_hand_in : MayHandIn setup state.calls state.outgoing.queue value.apdu;
    }
MayAct setup role state (Queues context apdu) =
    record {
      by_transfers : setup.mode ≡ Reliable;
      is_up : state.phase ≡ Up;
      may_hand_in : MayHandIn setup state.calls [] apdu;
    }
MayAct setup role state Drops =
    record { at_once : (setup.mode ≡ Reliable) → ⊥; is_free : IsFree state; has_due : (state.outgoing.queue ≡ []) → ⊥ }
MayAct setup role state (Alters items) =
    record {
      is_free : IsFree state;
      has_place : length state.sets.own < most_alterations;
      in_mode : MayAlterIn setup.mode state;
      once : AreDistinct (named (state.sets.own ++ (items ∷ [])));
      may_ask : AllMayAsk role state.sets.held (used setup.mode state) items;
    }
MayAct setup role state Marks = record { leads : Leads state; in_mode : MayMarkIn setup setup.mode state }
MayAct setup role state GivesTurn = record { leads : Leads state; in_mode : MayGiveIn setup.mode state }
MayAct setup role state (Pleads priority) =
    record { is_free : IsFree state; lacks_turn : state.turn ≡ false; in_mode : IsNotBare setup.mode }
MayAct setup role state (Restarts number) =
    record {
      is_direct : setup.mode ≡ Direct;
      is_free : IsFree state;
      is_positive : 1 ≤ number;
      is_known : number ≤ next_number state.saved;
    }
MayAct setup role state Starts =
    record {
      by_transfers : setup.mode ≡ Reliable;
      leads : Leads state;
      is_first : state.outgoing.transfer ≡ None;
      has_item : (state.outgoing.queue ≡ []) → ⊥;
    }
MayAct setup role state (Encodes context) =
    record {
      by_transfers : setup.mode ≡ Reliable;
      leads : Leads state;
      is_due : IsUnencoded state.outgoing.transfer;
      is_writable : MayEncode setup.codec context state.sets.held state.outgoing.transfer;
    }
MayAct setup role state (Sends octets) =
    record {
      by_transfers : setup.mode ≡ Reliable;
      leads : Leads state;
      is_next : OnRunning (λ sent all. (rest : List ℕ) × ((sent ++ octets) ++ rest ≡ all)) setup.codec state.outgoing.transfer;
      is_within : length (joined (pieces_of state.outgoing.transfer) ++ octets) ≤ setup.most_transferred;
    }
MayAct setup role state EndsActivity =
    record {
      by_transfers : setup.mode ≡ Reliable;
      leads : Leads state;
      is_whole : OnRunning (λ sent all. sent ≡ all) setup.codec state.outgoing.transfer;
    }
MayAct setup role state Interrupts =
    record { by_transfers : setup.mode ≡ Reliable; is_free : IsFree state; runs : has_progress Running state.outgoing.transfer }
MayAct setup role state Discards =
    record { by_transfers : setup.mode ≡ Reliable; is_free : IsFree state; runs : has_progress Running state.outgoing.transfer }
MayAct setup role state Resumes =
    record { by_transfers : setup.mode ≡ Reliable; leads : Leads state; rests : has_progress Suspended state.outgoing.transfer }
MayAct setup role state Releases =
    record {
      initiates : role ≡ Initiator;
      is_free : IsFree state;
      is_settled : state.sets.own ≡ [];
      in_mode : MayReleaseIn setup.mode state;
      none_open : state.calls.own_open ≡ [];
    }
MayAct setup role state Aborts = record { in_phase : MayAbortIn state.phase; in_mode : IsNotBare setup.mode }
MayAct setup role state Withdraws = record { in_phase : MayWithdrawIn role state.phase; in_mode : IsNotBare setup.mode }
MayAct setup role state TransportFails = record { in_phase : MayWithdrawIn role state.phase; in_mode : IsNotBare setup.mode }

abbrev pub confirmed_of : Option Transfer → ℕ
confirmed_of None = 0
confirmed_of (Some transfer) = transfer.confirmed

-- the number of the next mark
abbrev pub next_mark : Mode → State → ℕ
next_mark Bare state = 0
next_mark Direct state = next_number state.saved
next_mark Reliable state = suc (highest (pieces_of state.outgoing.transfer))

-- the message that an act sends
abbrev pub sent_by : ModelSetup → State → Act → List Message
sent_by setup state Connects = Connect ∷ []
sent_by setup state Recovers = Recover ∷ []
sent_by setup state (SaysValue value) = Data value ∷ []
sent_by setup state (Queues context apdu) = []
sent_by setup state Drops = []
sent_by setup state (Alters items) = Alter items ∷ []
sent_by setup state Marks = Mark (next_mark setup.mode state) ∷ []
sent_by setup state GivesTurn = Give ∷ []
sent_by setup state (Pleads priority) = Please priority ∷ []
sent_by setup state (Restarts number) = Restart number (listed (newest (below number state.saved))) ∷ []
sent_by setup state Starts = Start (suc state.outgoing.started) ∷ []
sent_by setup state (Encodes context) = []
sent_by setup state (Sends octets) = Chunk octets ∷ []
sent_by setup state EndsActivity = End (suc (highest (pieces_of state.outgoing.transfer))) ∷ []
sent_by setup state Interrupts = Interrupt ∷ []
sent_by setup state Discards = Discard ∷ []
sent_by setup state Resumes = Resume state.outgoing.started (confirmed_of state.outgoing.transfer) ∷ []
sent_by setup state Releases = Release ∷ []
sent_by setup state Aborts = UserAbort ∷ []
sent_by setup state Withdraws = []
sent_by setup state TransportFails = []

abbrev pub on_transfer : (Transfer → Transfer) → Outgoing → Outgoing
on_transfer change outgoing = record outgoing { transfer = on_some outgoing.transfer }
  where
    on_some : Option Transfer → Option Transfer
    on_some None = None
    on_some (Some transfer) = Some (change transfer)

-- the next item becomes the current transfer
abbrev pub started : Outgoing → Outgoing
started outgoing = record { started = suc outgoing.started; transfer = first outgoing.queue; queue = rest outgoing.queue }
  where
    first : List Handed → Option Transfer
    first [] = None
    first (item ∷ items) = Some (record { item = item; value = None; pieces = []; confirmed = 0; progress = Running })

    rest : List Handed → List Handed
    rest [] = []
    rest (item ∷ items) = items

-- back to a mark; from nothing on the item is to be encoded anew
abbrev pub resumed_value : ℕ → Option Value → Option Value
resumed_value zero value = None
resumed_value (suc n) value = value

abbrev pub resumed : Transfer → Transfer
resumed transfer =
    record transfer {
      value = resumed_value transfer.confirmed transfer.value;
      pieces = up_to transfer.confirmed transfer.pieces;
      progress = Running;
    }

-- at an AS or AR both ends keep the present set as the inter-activity set; an AR from a mark brings
-- back the set of that mark (this project's own rule)
abbrev pub resumed_set : ℕ → List Piece → ContextSet → ContextSet
resumed_set zero pieces held = held
resumed_set (suc n) pieces held = newest_set (up_to (suc n) pieces)

-- the state after an act
abbrev pub marked_in : Mode → State → State
marked_in Bare state = state
marked_in Direct state =
    record state { saved = record { number = next_number state.saved; set = state.sets.held } ∷ state.saved }
marked_in Reliable state =
    record state {
      outgoing = on_transfer (λ transfer. record transfer { pieces = Marked (suc (highest transfer.pieces)) state.sets.held ∷ transfer.pieces }) state.outgoing;
    }

abbrev pub gave_in : Mode → State → State
gave_in Bare state = state
gave_in Direct state = record state { turn = false }
gave_in Reliable state = record state { turn = false; gave = true }

abbrev pub acted : ModelSetup → State → Act → State
acted setup state Connects = record state { phase = Opening }
acted setup state Recovers = record state { phase = Recovering }
acted setup state (SaysValue value) =
    record state {
      calls = handed_in setup state.calls value.identifier value.apdu;
      outgoing = record state.outgoing { queue = due_after value.apdu state.outgoing.queue };
    }
acted setup state (Queues context apdu) =
    record state {
      calls = handed_in setup state.calls context apdu;
      outgoing = record state.outgoing { queue = state.outgoing.queue ++ (record { context = context; apdu = apdu } ∷ []) };
    }
acted setup state Drops = record state { outgoing = record state.outgoing { queue = after_due state.outgoing.queue } }
acted setup state (Alters items) = record state { sets = record state.sets { own = state.sets.own ++ (items ∷ []) } }
acted setup state Marks = marked_in setup.mode state
acted setup state GivesTurn = gave_in setup.mode state
acted setup state (Pleads priority) = state
acted setup state (Restarts number) = record state { awaits = RestartOf number }
acted setup state Starts =
    record state { outgoing = started state.outgoing; sets = record state.sets { inter = state.sets.held } }
acted setup state (Encodes context) =
    record state {
      outgoing = on_transfer (λ transfer. record transfer { value = value_on context transfer.item (lookup state.sets.held context) }) state.outgoing;
    }
acted setup state (Sends octets) =
    record state { outgoing = on_transfer (λ transfer. record transfer { pieces = Octets octets ∷ transfer.pieces }) state.outgoing }
acted setup state EndsActivity = record state { outgoing = on_transfer (λ transfer. record transfer { progress = Ending }) state.outgoing }
acted setup state Interrupts = record state { awaits = InterruptOf }
acted setup state Discards =
    record state { awaits = DiscardOf; outgoing = on_transfer (λ transfer. record transfer { confirmed = 0 }) state.outgoing }
acted setup state Resumes =
    record state {
      outgoing = on_transfer resumed state.outgoing;
      sets =
          record state.sets {
            inter = state.sets.held;
            held = resumed_set (confirmed_of state.outgoing.transfer) (pieces_of state.outgoing.transfer) state.sets.held;
          };
    }
acted setup state Releases = record state { phase = Releasing; awaits = ReleaseOf }
acted setup state Aborts = record state { phase = Over; calls = cut_calls state.calls }
acted setup state Withdraws = record state { phase = Over; calls = cut_calls state.calls }
acted setup state TransportFails = record state { phase = Over }
