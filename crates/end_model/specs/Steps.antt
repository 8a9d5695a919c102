-- What two ends of any mode do, step by step beside the model: an act, a taking, a passing over, a break, and what the model
-- doesn't see. Each keeps a run of the model with the states of both ends and with what is on its way.
use Rattle.std.specs.Prelude.{◌≡◌, List, [], ◌∷◌, ◌++◌, true, false, None, ◌⊎◌}
use Rattle.osi_base.specs.declared.layer_words.Proposal.{Proposal}
use Rattle.end_rules.specs.Base.{Base}
use Rattle.end_rules.specs.State.{Body, Unused}
use Rattle.end_rules.specs.Messages.{Message, TransportUnit, Word, Transport, Session}
use Rattle.end_rules.specs.Reacting.{word_fault, after_word, answers_to_word}
use Rattle.end_rules.specs.History.{after_broke, broken_phase}
use Rattle.agreement.specs.Sets.{Role, other}
use Rattle.agreement.specs.Sets.Role.{Initiator}
use Rattle.agreement.specs.Messages.{Act, Choice, Message as ModelMessage}
use Rattle.agreement.specs.State.Phase.{Over}
use Rattle.agreement.specs.Takings.{MayTake, IsChoice, is_purged, broken_phase as model_broken_phase}
use Rattle.agreement.specs.Worlds.{Sending, World, IsRun, state_of, flight_to}
use Rattle.agreement.specs.Worlds.Step.{Acts, Takes, Passes}
use Rattle.agreement.specs.Worlds.Moment.{By, Break}
use Rattle.end_model.specs.Seen.{Free, mode_seen, phase_seen, seen}
use Rattle.end_model.specs.Words.{Means, AreMeant}
use Rattle.end_model.specs.Acting.{ActsAs, TakenAs}
use Rattle.end_model.specs.BothEnds.{Common, base_at, setup_of}

-- the messages that come to an end are meant by those on their way to it in the model, which has no transport units
abbrev pub AreOnWay : List Proposal → Base → List Message → List Sending → Type 0
AreOnWay proposed base (Transport unit ∷ messages) flight = AreOnWay proposed base messages flight
AreOnWay proposed base [] [] = Unit {0}
AreOnWay proposed base [] (s ∷ ss) = ⊥
AreOnWay proposed base (Session word ∷ messages) [] = ⊥
AreOnWay proposed base (Session word ∷ messages) (s ∷ ss) = Means proposed base word s.message × AreOnWay proposed base messages ss

pub record EndOf (free : Free) (common : Common) (proposed : List Proposal) (world : World) (role : Role) (body : Body) (coming : List Message) : Type 0 where
  pub state : state_of (setup_of free common) role world ≡ seen (base_at role common) body
  pub flight : AreOnWay proposed (base_at Initiator common) coming (flight_to (setup_of free common) role world)

-- a run, the end of this role, and the other
pub record RunWithBoth (free : Free) (common : Common) (proposed : List Proposal) (world : World)
    (role : Role) (body : Body) (coming : List Message) (peer : Body) (to_peer : List Message) : Type 0 where
  pub run : IsRun (setup_of free common) world
  pub own : EndOf free common proposed world role body coming
  pub others : EndOf free common proposed world (other role) peer to_peer

-- what an end does that is an act
abbrev pub ActsKept : Type 0
ActsKept =
    (free : Free) (common : Common) (proposed : List Proposal) (world : World) (role : Role) (body later : Body) (coming : List Message) (peer : Body) (to_peer sent : List Message) (act : Act) →
    RunWithBoth free common proposed world role body coming peer to_peer → ActsAs free common.mode (base_at role common) proposed body later sent act →
    RunWithBoth free common proposed (By role (Acts act) ∷ world) role later coming peer (to_peer ++ sent)

-- The word that comes next has no fault, and is taken, where the end isn't over and doesn't pass it over: what the word means
-- may be taken in every run, and with that the word is taken as the message.
pub record TookIt (free : Free) (common : Common) (proposed : List Proposal) (world : World)
    (role : Role) (body : Body) (word : Word) (left : List Message) (peer : Body) (to_peer : List Message) (choice : Choice) : Type 0 where
  pub message : ModelMessage
  pub means : Means proposed (base_at Initiator common) word message
  pub no_fault : word_fault (base_at role common) body word ≡ None
  pub ends : RunWithBoth free common proposed (By role (Takes message choice) ∷ world) role
      (after_word (base_at role common) body word) left peer (to_peer ++ answers_to_word (base_at role common) body word)

abbrev pub TakesKept : Type 0
TakesKept =
    (free : Free) (common : Common) (proposed : List Proposal) (world : World)
    (role : Role) (body : Body) (word : Word) (left : List Message) (peer : Body) (to_peer : List Message) (choice : Choice) →
    RunWithBoth free common proposed world role body (Session word ∷ left) peer to_peer →
    ((seen (base_at role common) body).phase ≡ Over → ⊥) →
    ((message : ModelMessage) → Means proposed (base_at Initiator common) word message → is_purged role (seen (base_at role common) body).awaits message ≡ false) →
    ((message : ModelMessage) → Means proposed (base_at Initiator common) word message → IsChoice (setup_of free common) (seen (base_at role common) body) message choice) →
    ((message : ModelMessage) → Means proposed (base_at Initiator common) word message → MayTake (setup_of free common) role (seen (base_at role common) body) message →
    TakenAs free common.mode (base_at role common) proposed body word message choice) →
    TookIt free common proposed world role body word left peer to_peer choice

-- what is passed over: all by an end that is over, or what is purged
pub record PassedIt (free : Free) (common : Common) (proposed : List Proposal) (world : World) (role : Role) (body : Body) (left : List Message) (peer : Body) (to_peer : List Message) : Type 0 where
  pub message : ModelMessage
  pub ends : RunWithBoth free common proposed (By role (Passes message) ∷ world) role body left peer to_peer

abbrev pub PassesKept : Type 0
PassesKept =
    (free : Free) (common : Common) (proposed : List Proposal) (world : World) (role : Role) (body : Body) (word : Word) (left : List Message) (peer : Body) (to_peer : List Message) →
    RunWithBoth free common proposed world role body (Session word ∷ left) peer to_peer →
    ((message : ModelMessage) → Means proposed (base_at Initiator common) word message →
    ((seen (base_at role common) body).phase ≡ Over) ⊎ (is_purged role (seen (base_at role common) body).awaits message ≡ true)) →
    PassedIt free common proposed world role body left peer to_peer

-- a break, but of an opening before its CN
abbrev pub BreaksSo : Common → Body → Type 0
BreaksSo common body =
    phase_seen Unused (broken_phase common.mode body.link.phase) ≡ model_broken_phase (mode_seen common.mode) (phase_seen body.link.stage body.link.phase)

abbrev pub BreaksKept : Type 0
BreaksKept =
    (free : Free) (common : Common) (proposed : List Proposal) (world : World) (role : Role) (body : Body) (coming : List Message) (peer : Body) (to_peer : List Message) →
    RunWithBoth free common proposed world role body coming peer to_peer → BreaksSo common body → BreaksSo common peer →
    RunWithBoth free common proposed (Break ∷ world) role (after_broke (base_at role common) body) [] (after_broke (base_at (other role) common) peer) []

-- what the model doesn't see: a change of the body that it doesn't see, which sends transport units at most
abbrev pub UnseenKept : Type 0
UnseenKept =
    (free : Free) (common : Common) (proposed : List Proposal) (world : World) (role : Role) (body later : Body) (coming : List Message) (peer : Body) (to_peer sent : List Message) →
    RunWithBoth free common proposed world role body coming peer to_peer → seen (base_at role common) later ≡ seen (base_at role common) body →
    AreMeant proposed (base_at role common) sent [] →
    RunWithBoth free common proposed world role later coming peer (to_peer ++ sent)

-- and a transport unit that comes is none of the model's
abbrev pub UnitsKept : Type 0
UnitsKept =
    (free : Free) (common : Common) (proposed : List Proposal) (world : World) (role : Role) (body : Body) (unit : TransportUnit) (left : List Message) (peer : Body) (to_peer : List Message) →
    RunWithBoth free common proposed world role body (Transport unit ∷ left) peer to_peer → RunWithBoth free common proposed world role body left peer to_peer
