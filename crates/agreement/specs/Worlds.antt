-- Two ends and what goes between them: a world is the list of its moments, the newest first.
use Rattle.std.specs.Prelude.{◌≡◌, ℕ, suc, zero, true, false, ◌⊎◌, ◌++◌, List, [], ◌∷◌, Option, None}
use Rattle.agreement.specs.Sets.{Pair, Role, ContextSet, Saved, altered, lookup, below, newest}
use Rattle.agreement.specs.Sets.Role.{Initiator, Responder}
use Rattle.agreement.specs.Messages.{Mode, ModelSetup, Message, Act, Choice}
use Rattle.agreement.specs.Messages.Mode.{Bare, Direct, Reliable}
use Rattle.agreement.specs.Messages.Message.{Connect, Recover, Data, Alter, Mark, Restart, Start, Resume, End, Interrupt, Discard}
use Rattle.agreement.specs.Messages.Choice.{Accepting, Results}
use Rattle.agreement.specs.State.{State, first_set, new_end}
use Rattle.agreement.specs.State.Phase.{Over}
use Rattle.agreement.specs.Acts.{MayAct, sent_by, acted}
use Rattle.agreement.specs.Takings.{is_purged, IsChoice, answer_to, taken, broken}

-- what an end does, takes, passes over
pub data Step : Type 0 where
  Acts : (act : Act) → Step
  Takes : (message : Message) → (choice : Choice) → Step
  Passes : (message : Message) → Step

-- a step of one end, or a break of the connection
pub data Moment : Type 0 where
  By : (role : Role) → (step : Step) → Moment
  Break : Moment

abbrev pub World : Type 0
World = List Moment

-- of two values the first where the roles are the same
abbrev pub if_same : {A : Type 0} → Role → Role → A → A → A
if_same Initiator Initiator x y = x
if_same Initiator Responder x y = y
if_same Responder Initiator x y = y
if_same Responder Responder x y = x

abbrev pub after : ModelSetup → Role → State → Step → State
after setup role state (Acts act) = acted setup state act
after setup role state (Takes message choice) = taken setup role state message choice
after setup role state (Passes message) = state

-- the state of an end, from its own steps
abbrev pub state_of : ModelSetup → Role → World → State
state_of setup role [] = new_end setup role
state_of setup role (Break ∷ world) = broken setup (state_of setup role world)
state_of setup role (By who step ∷ world) =
    if_same role who (after setup role (state_of setup role world) step) (state_of setup role world)

abbrev pub sent_in : ModelSetup → State → Step → List Message
sent_in setup state (Acts act) = sent_by setup state act
sent_in setup state (Takes message choice) = answer_to setup state message choice
sent_in setup state (Passes message) = []

-- The shared set, from sendings alone: the set, the inter-activity set, and what was saved: under
-- the numbers of direct mode, and under the marks of each end's last activity.
pub record Shared : Type 0 where
  pub set : ContextSet
  pub inter : ContextSet
  pub saved : List Saved
  pub of_initiator : List Saved
  pub of_responder : List Saved

abbrev pub saved_of : Role → Shared → List Saved
saved_of Initiator shared = shared.of_initiator
saved_of Responder shared = shared.of_responder

abbrev pub saving : Role → List Saved → Shared → Shared
saving Initiator marks shared = record shared { of_initiator = marks }
saving Responder marks shared = record shared { of_responder = marks }

-- a mark saves the shared set at its sending
abbrev pub shared_marked : Mode → Role → ℕ → Shared → Shared
shared_marked Bare role number shared = shared
shared_marked Direct role number shared =
    record shared { saved = record { number = number; set = shared.set } ∷ shared.saved }
shared_marked Reliable role number shared =
    saving role (record { number = number; set = shared.set } ∷ saved_of role shared) shared

-- a resumption from a mark brings back the set of that mark of the sender's activity
abbrev pub shared_resumed : Role → ℕ → Shared → Shared
shared_resumed role zero shared = saving role [] (record shared { inter = shared.set })
shared_resumed role (suc n) shared =
    saving role (below (suc (suc n)) (saved_of role shared))
    (record shared { inter = shared.set; set = newest (below (suc (suc n)) (saved_of role shared)) })

-- what the sending of a message of itself changes
abbrev pub shared_sent : Mode → Role → Message → Shared → Shared
shared_sent mode role (Mark number) shared = shared_marked mode role number shared
shared_sent mode role (Start activity) shared = saving role [] (record shared { inter = shared.set })
shared_sent mode role (Resume activity mark) shared = shared_resumed role mark shared
shared_sent mode role message shared = shared

abbrev pub shared_all : Mode → Role → List Message → Shared → Shared
shared_all mode role [] shared = shared
shared_all mode role (message ∷ messages) shared = shared_all mode role messages (shared_sent mode role message shared)

abbrev pub shared_opened : Choice → Shared → Shared
shared_opened (Accepting set) shared =
    record { set = set; inter = set; saved = record { number = 0; set = set } ∷ []; of_initiator = []; of_responder = [] }
shared_opened choice shared = shared

abbrev pub shared_recovered : Choice → Shared → Shared
shared_recovered (Accepting set) shared =
    record shared { set = set; inter = set; saved = record { number = 0; set = set } ∷ [] }
shared_recovered choice shared = shared

-- what the sending of an answer changes: an acceptance brings the accepted contexts, an alteration's
-- answer what it accepts, a restart's answer the set of the highest mark below, the answer to an
-- end, an interrupt or a discard the inter-activity set
abbrev pub shared_answered : Message → Choice → Shared → Shared
shared_answered Connect choice shared = shared_opened choice shared
shared_answered Recover choice shared = shared_recovered choice shared
shared_answered (Alter items) (Results results) shared = record shared { set = altered items results shared.set }
shared_answered (Restart number list) choice shared =
    record shared { set = newest (below number shared.saved); saved = below number shared.saved }
shared_answered (End number) choice shared = record shared { set = shared.inter }
shared_answered Interrupt choice shared = record shared { set = shared.inter }
shared_answered Discard choice shared = record shared { set = shared.inter }
shared_answered message choice shared = shared

abbrev pub shared_after : ModelSetup → Role → State → Step → Shared → Shared
shared_after setup role state (Acts act) shared = shared_all setup.mode role (sent_by setup state act) shared
shared_after setup role state (Takes message choice) shared = shared_answered message choice shared
shared_after setup role state (Passes message) shared = shared

-- the shared set of a world: of the ends it takes only what they send
abbrev pub shared_at : ModelSetup → World → Shared
shared_at setup [] = record { set = first_set setup setup.mode; inter = []; saved = []; of_initiator = []; of_responder = [] }
shared_at setup (Break ∷ world) = shared_at setup world
shared_at setup (By who step ∷ world) = shared_after setup who (state_of setup who world) step (shared_at setup world)

-- a message that was sent, with the shared set just before
pub record Sending : Type 0 where
  pub message : Message
  pub shared : ContextSet

abbrev pub sendings : ContextSet → List Message → List Sending
sendings shared [] = []
sendings shared (message ∷ messages) = record { message = message; shared = shared } ∷ sendings shared messages

abbrev pub sent_by_step : ModelSetup → Role → World → Step → List Sending
sent_by_step setup who world step = sendings (shared_at setup world).set (sent_in setup (state_of setup who world) step)

abbrev pub without_first : List Sending → List Sending
without_first [] = []
without_first (sending ∷ rest) = rest

abbrev pub taken_off : Step → List Sending → List Sending
taken_off (Acts act) flight = flight
taken_off (Takes message choice) flight = without_first flight
taken_off (Passes message) flight = without_first flight

-- what is on its way to an end: sent on this connection and not yet come, the oldest first
abbrev pub flight_to : ModelSetup → Role → World → List Sending
flight_to setup role [] = []
flight_to setup role (Break ∷ world) = []
flight_to setup role (By who step ∷ world) =
    if_same role who
    (taken_off step (flight_to setup role world))
    (flight_to setup role world ++ sent_by_step setup who world step)

-- the message comes next
abbrev pub ComesNext : Message → List Sending → Type 0
ComesNext message [] = ⊥
ComesNext message (sending ∷ rest) = sending.message ≡ message

-- what may happen next: an act that may be done; a taking of what comes next, if it isn't purged, by
-- an end that isn't over; a passing over of what comes next where it is purged or the end is over
abbrev pub IsStep : ModelSetup → Role → State → List Sending → Step → Type 0
IsStep setup role state flight (Acts act) = MayAct setup role state act
IsStep setup role state flight (Takes message choice) =
    record {
      comes : ComesNext message flight;
      is_alive : (state.phase ≡ Over) → ⊥;
      is_kept : is_purged role state.awaits message ≡ false;
      is_choice : IsChoice setup state message choice;
    }
IsStep setup role state flight (Passes message) =
    record {
      comes : ComesNext message flight;
      is_passed : (state.phase ≡ Over) ⊎ (is_purged role state.awaits message ≡ true);
    }

abbrev pub IsMoment : ModelSetup → World → Moment → Type 0
IsMoment setup world Break = Unit {0}
IsMoment setup world (By who step) = IsStep setup who (state_of setup who world) (flight_to setup who world) step

-- the worlds that two ends can reach
abbrev pub IsRun : ModelSetup → World → Type 0
IsRun setup [] = Unit {0}
IsRun setup (moment ∷ world) = IsMoment setup world moment × IsRun setup world

-- the pair of a presentation value in a message, as a set gives it; other messages have none
abbrev pub pair_under : ContextSet → Message → Option Pair
pair_under set (Data value) = lookup set value.identifier
pair_under set message = None
