-- Two ends at the level of messages: what they reach by calls, by takings and by breaks; and the world of the model that
-- goes with it.
use Rattle.std.specs.Prelude.{◌≡◌, ℤ, List, [], ◌∷◌, ◌++◌, true, Option, Ok, ◌⊎◌}
use Rattle.dialogue.specs.declared.config.Config.{Config}
use Rattle.dialogue.specs.declared.config.Mode.TheVariants.{Bare}
use Rattle.dialogue.specs.declared.config.Mode.{Mode}
use Rattle.dialogue.specs.declared.config.Phase.TheVariants.{Up, Over}
use Rattle.dialogue.specs.declared.call.Call.{Call}
use Rattle.dialogue.specs.declared.indication.Indication.{Indication}
use Rattle.stub_tables.specs.declared.tables.Tables.{Tables}
use Rattle.end_rules.specs.Base.{Base, Spellings, Fault}
use Rattle.end_rules.specs.Messages.{Message}
use Rattle.end_rules.specs.State.{Body, new_body}
use Rattle.end_rules.specs.Calling.{can_call}
use Rattle.end_rules.specs.Requesting.{due_of}
use Rattle.end_rules.specs.Reacting.{Passes, Takes, Fails, react}
use Rattle.end_rules.specs.History.{after_broke}
use Rattle.agreement.specs.Sets.{Role, is_initiator}
use Rattle.agreement.specs.Sets.Role.{Initiator, Responder}
use Rattle.agreement.specs.Messages.{ModelSetup, Value}
use Rattle.agreement.specs.Worlds.{Sending, World, IsRun, state_of, flight_to}
use Rattle.end_model.specs.Seen.{Free, seen, setup_seen}
use Rattle.end_model.specs.Words.{IsOurs}
use Rattle.end_model.specs.Acting.{IsSoundBody, ReadsBack}
use Rattle.end_model.specs.Requests.{after_called}

-- what two ends have in common, and the configuration of each
pub record Common : Type 0 where
  pub tables : Tables
  pub spellings : Spellings
  pub mode : Mode
  pub of_initiator : Config
  pub of_responder : Config

abbrev pub config_at : Role → Common → Config
config_at Initiator common = common.of_initiator
config_at Responder common = common.of_responder

-- what the rules of the end of this role stand on
abbrev pub base_at : Role → Common → Base
base_at role common =
    record { tables = common.tables; config = config_at role common; initiator = is_initiator role; mode = common.mode; spellings = common.spellings }

-- the bodies, and the messages on their way to each end, the oldest first
pub record Two : Type 0 where
  pub a : Body
  pub b : Body
  pub to_a : List Message
  pub to_b : List Message

abbrev pub two_new : Common → Two
two_new common = record { a = new_body (base_at Initiator common); b = new_body (base_at Responder common); to_a = []; to_b = [] }

abbrev pub body_at : Role → Two → Body
body_at Initiator two = two.a
body_at Responder two = two.b

abbrev pub coming_to : Role → Two → List Message
coming_to Initiator two = two.to_a
coming_to Responder two = two.to_b

-- the end of this role has this body now, this is left of what comes to it, and this it sent
abbrev pub stepped : Role → Body → List Message → List Message → Two → Two
stepped Initiator body left sent two = record { a = body; b = two.b; to_a = left; to_b = two.to_b ++ sent }
stepped Responder body left sent two = record { a = two.a; b = body; to_a = two.to_a ++ sent; to_b = left }

abbrev pub both_broke : Common → Two → Two
both_broke common two =
    record { a = after_broke (base_at Initiator common) two.a; b = after_broke (base_at Responder common) two.b; to_a = []; to_b = [] }

-- What two ends reach outside reliable mode, where an end sends nothing by itself: an accepted call sends what it makes
-- due; a message that comes is taken and answered, passed over, or ends the association by an abort; a connection breaks.
pub data Reached (common : Common) : Two → Type 0 where
  begins : Reached common (two_new common)
  calls : (two : Two) (role : Role) (call : Call) (answer : Option ℤ) → Reached common two
      → can_call (base_at role common) (body_at role two) call ≡ Ok answer
      → Reached common (stepped role (after_called common.mode (base_at role common) (body_at role two) call answer)
      (coming_to role two) (due_of (base_at role common) (body_at role two) call (Ok answer)) two)
  takes : (two : Two) (role : Role) (message : Message) (left : List Message) (body : Body) (answers : List Message) (shown : List Indication) → Reached common two
      → coming_to role two ≡ message ∷ left → react (base_at role common) (body_at role two) message ≡ Takes body answers shown
      → Reached common (stepped role body left answers two)
  passes : (two : Two) (role : Role) (message : Message) (left : List Message) → Reached common two
      → coming_to role two ≡ message ∷ left → react (base_at role common) (body_at role two) message ≡ Passes
      → Reached common (stepped role (body_at role two) left [] two)
  fails : (two : Two) (role : Role) (message : Message) (left : List Message) (fault : Fault) (body : Body) (aborts : List Message) (shown : List Indication) → Reached common two
      → coming_to role two ≡ message ∷ left → react (base_at role common) (body_at role two) message ≡ Fails fault body aborts shown
      → Reached common (stepped role body left aborts two)
  breaks : (two : Two) → Reached common two → Reached common (both_broke common two)

-- ---- the model of two bodies

abbrev pub setup_of : Free → Common → ModelSetup
setup_of free common = setup_seen free common.mode (base_at Initiator common)

-- the messages that come to an end are those on their way to it in the model
abbrev pub AreComing : Base → List Message → List Sending → Type 0
AreComing base [] [] = Unit {0}
AreComing base [] (s ∷ ss) = ⊥
AreComing base (message ∷ messages) [] = ⊥
AreComing base (message ∷ messages) (s ∷ ss) = IsOurs base message s.message × AreComing base messages ss

-- the state of the model is what it sees of the body
pub record SideOf (free : Free) (common : Common) (world : World) (role : Role) (body : Body) (coming : List Message) : Type 0 where
  pub state : state_of (setup_of free common) role world ≡ seen (base_at role common) body
  pub sound : IsSoundBody common.mode (base_at role common) body
  pub phase : (body.link.phase ≡ Up) ⊎ (body.link.phase ≡ Over)
  pub flight : AreComing (base_at Initiator common) coming (flight_to (setup_of free common) role world)

pub record ModelOf (free : Free) (common : Common) (two : Two) : Type 0 where
  pub world : World
  pub run : IsRun (setup_of free common) world
  pub a : SideOf free common world Initiator two.a two.to_a
  pub b : SideOf free common world Responder two.b two.to_b

-- ---- bare mode

abbrev pub bare_common : Tables → Spellings → Config → Config → Common
bare_common tables spellings a b = record { tables = tables; spellings = spellings; mode = Bare; of_initiator = a; of_responder = b }

-- the codec may write every value
abbrev pub WritesAll : Free → Type 0
WritesAll free = (value : Value) → free.codec.may_write value ≡ true

-- there is such a codec
abbrev pub HasCodec : Type 0
HasCodec = (free : Free) × WritesAll free

-- Whatever two ends of bare mode reach, there is a model of it.
abbrev pub BareModelled : Type 0
BareModelled =
    (free : Free) (tables : Tables) (spellings : Spellings) (a b : Config) → WritesAll free →
    ReadsBack (base_at Initiator (bare_common tables spellings a b)) →
    (two : Two) → Reached (bare_common tables spellings a b) two → ModelOf free (bare_common tables spellings a b) two

-- Whatever comes next to an end of them is taken or passed over: neither aborts of itself.
abbrev pub BareTakes : Type 0
BareTakes =
    (free : Free) (tables : Tables) (spellings : Spellings) (a b : Config) → WritesAll free →
    ReadsBack (base_at Initiator (bare_common tables spellings a b)) →
    (two : Two) (role : Role) (message : Message) (left : List Message) (fault : Fault) (body : Body) (aborts : List Message) (shown : List Indication) →
    Reached (bare_common tables spellings a b) two → coming_to role two ≡ message ∷ left →
    react (base_at role (bare_common tables spellings a b)) (body_at role two) message ≡ Fails fault body aborts shown → ⊥
