-- What an end has in hand: its sets, what it sends, what it receives, its open invocations.
use Rattle.std.specs.Prelude.{ℕ, zero, suc, Bool, false, nat_eq, if◌then◌else◌, List, [], ◌∷◌, ◌++◌, Option, None}
use Rattle.agreement.specs.Sets.{Role, is_initiator, ContextSet, Item, Saved}
use Rattle.agreement.specs.Messages.{Apdu, Calls, Value, Mode, ModelSetup}
use Rattle.agreement.specs.Messages.Mode.{Bare, Direct, Reliable}

pub data Phase : Type 0 where
  Idle : Phase
  Opening : Phase
  Up : Phase
  Releasing : Phase
  Broken : Phase
  Recovering : Phase
  Over : Phase

-- the own request that isn't answered yet and stops all else
pub data Awaited : Type 0 where
  NoAnswer : Awaited
  RestartOf : (number : ℕ) → Awaited
  InterruptOf : Awaited
  DiscardOf : Awaited
  ReleaseOf : Awaited

-- the held set, the inter-activity set, and the own alterations that aren't answered, oldest first
pub record Sets : Type 0 where
  pub held : ContextSet
  pub inter : ContextSet
  pub own : List (List Item)

-- a transfer is made of octets and marks, each mark with its set; lists have the newest first
pub data Piece : Type 0 where
  Octets : (octets : List ℕ) → Piece
  Marked : (number : ℕ) → (set : ContextSet) → Piece

-- the pieces from the newest mark of this number on, back to the first
abbrev pub from_mark : ℕ → List Piece → List Piece
from_mark n [] = []
from_mark n (Octets octets ∷ pieces) = from_mark n pieces
from_mark n (Marked m set ∷ pieces) = if nat_eq m n then Marked m set ∷ pieces else from_mark n pieces

-- the pieces up to a mark: none for 0
abbrev pub up_to : ℕ → List Piece → List Piece
up_to zero pieces = []
up_to (suc n) pieces = from_mark (suc n) pieces

-- the set of the newest mark, and its number, 0 where there is none
abbrev pub newest_set : List Piece → ContextSet
newest_set [] = []
newest_set (Octets octets ∷ pieces) = newest_set pieces
newest_set (Marked m set ∷ pieces) = set

abbrev pub highest : List Piece → ℕ
highest [] = 0
highest (Octets octets ∷ pieces) = highest pieces
highest (Marked m set ∷ pieces) = m

-- the octets from the first to the newest
abbrev pub joined : List Piece → List ℕ
joined [] = []
joined (Octets octets ∷ pieces) = joined pieces ++ octets
joined (Marked m set ∷ pieces) = joined pieces

pub data Progress : Type 0 where
  Running : Progress
  Ending : Progress
  Suspended : Progress

-- an APDU that was handed in, with the context that was asked for
pub record Handed : Type 0 where
  pub context : ℕ
  pub apdu : Apdu

-- the current transfer: its item, the value as it was last encoded, the pieces sent, the highest
-- confirmed mark
pub record Transfer : Type 0 where
  pub item : Handed
  pub value : Option Value
  pub pieces : List Piece
  pub confirmed : ℕ
  pub progress : Progress

-- what an end sends: the number of its last started activity, the current transfer, and the queue: in
-- reliable mode what is to be transferred, else the rejects that are due
pub record Outgoing : Type 0 where
  pub started : ℕ
  pub transfer : Option Transfer
  pub queue : List Handed

-- what an end receives: the record of the peer's last activity
pub record Incoming : Type 0 where
  pub last : ℕ
  pub pieces : List Piece
  pub was_handed : Bool
  pub active : Bool

pub record State : Type 0 where
  pub phase : Phase
  pub turn : Bool  -- in direct mode the minor token
  pub gave : Bool  -- a giving of the turn isn't confirmed
  pub awaits : Awaited
  pub sets : Sets
  pub saved : List Saved  -- direct mode: what the marks saved
  pub outgoing : Outgoing
  pub incoming : Incoming
  pub calls : Calls

abbrev pub no_calls : Calls
no_calls = record { own_open = []; peer_open = []; made = 0 }

abbrev pub cut_calls : Calls → Calls
cut_calls calls = record calls { own_open = []; peer_open = [] }

abbrev pub first_phase : Mode → Phase
first_phase Bare = Up
first_phase Direct = Idle
first_phase Reliable = Idle

abbrev pub first_set : ModelSetup → Mode → ContextSet
first_set setup Bare = setup.bare_context ∷ []
first_set setup Direct = []
first_set setup Reliable = []

-- a new end; the turn is at the initiator
abbrev pub new_end : ModelSetup → Role → State
new_end setup role =
    record {
      phase = first_phase setup.mode;
      turn = is_initiator role;
      gave = false;
      awaits = NoAnswer;
      sets = record { held = first_set setup setup.mode; inter = []; own = [] };
      saved = [];
      outgoing = record { started = 0; transfer = None; queue = [] };
      incoming = record { last = 0; pieces = []; was_handed = false; active = false };
      calls = no_calls;
    }

-- what is accepted is the inter-activity set in reliable mode, and is saved under number 0 in direct mode
abbrev pub inter_with : Mode → ContextSet → ContextSet → ContextSet
inter_with Reliable set inter = set
inter_with mode set inter = inter

abbrev pub saved_with : Mode → ContextSet → List Saved → List Saved
saved_with Direct set saved = record { number = 0; set = set } ∷ []
saved_with mode set saved = saved

-- up with the accepted contexts; the turn is at the initiator
abbrev pub joined_with : Mode → Role → ContextSet → State → State
joined_with mode role set state =
    record state {
      phase = Up;
      turn = is_initiator role;
      gave = false;
      awaits = NoAnswer;
      sets = record { held = set; inter = inter_with mode set state.sets.inter; own = [] };
      saved = saved_with mode set state.saved;
    }
