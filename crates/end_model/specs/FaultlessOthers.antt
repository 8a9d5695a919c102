-- What the end takes, the model may take: openings, data with an APDU, the answer to a release, and the words of a
-- transfer, where what the end knows besides stands beside the word.
use Rattle.std.specs.Prelude.{◌≡◌, ◌⊎◌, ℕ, List, true, false, Option, Some, None, Ok}
use Rattle.osi_base.specs.declared.session_word.SessionConnect.{SessionConnect}
use Rattle.osi_base.specs.declared.presentation_word.PresentationConnect.{PresentationConnect}
use Rattle.osi_base.specs.declared.presentation_word.PresentationAccept.{PresentationAccept}
use Rattle.osi_base.specs.declared.presentation_word.PresentationReject.{PresentationReject}
use Rattle.dialogue.specs.declared.config.Mode.{Mode}
use Rattle.dialogue.specs.declared.config.Mode.TheVariants.{Direct, Reliable}
use Rattle.dialogue.specs.declared.config.Phase.TheVariants.{Opening, Up, Releasing, Broken}
use Rattle.end_rules.specs.Base.{Base, Item, Arrived}
use Rattle.osi_base.specs.SetPlaces.{pair_of}
use Rattle.end_rules.specs.State.{Body, joined}
use Rattle.end_rules.specs.Connecting.{set_accepted}
use Rattle.end_rules.specs.Messages.{DataValue, Accepting, Word, OfAssociation, OfActivities, Connect, Accept, Refuse}
use Rattle.end_rules.specs.Messages.{Disconnect, Resume, End, EndAck, InterruptAck, DiscardAck}
use Rattle.end_rules.specs.Reacting.{word_fault}
use Rattle.agreement.specs.Messages.{Message as ModelMessage}
use Rattle.agreement.specs.Messages.Message.{Connect as model_connect, Recover as model_recover}
use Rattle.agreement.specs.Messages.Message.{Accept as model_accept, Refuse as model_refuse}
use Rattle.agreement.specs.Messages.Message.{Data as model_data, Resume as model_resume, End as model_end}
use Rattle.agreement.specs.Messages.Message.{EndAnswer as model_end_answer}
use Rattle.agreement.specs.Messages.Message.{InterruptAnswer as model_interrupt_answer}
use Rattle.agreement.specs.Messages.Message.{DiscardAnswer as model_discard_answer}
use Rattle.agreement.specs.Messages.Message.{ReleaseAnswer as model_release_answer}
use Rattle.agreement.specs.Takings.{MayTake, IsReadUnder}
use Rattle.end_model.specs.Seen.{Free, role_seen, set_seen, item_seen, seen, setup_seen}
use Rattle.end_model.specs.Rows.{at}
use Rattle.end_model.specs.Words.{data_word}
use Rattle.end_model.specs.Faultless.{Faultless}

-- a word without a fault is one that the model may take, where this holds of the end
abbrev pub FaultlessWhere : (Free → Base → Body → Type 0) → Mode → Word → ModelMessage → Type 0
FaultlessWhere Holds mode word message =
    (free : Free) (base : Base) (body : Body) → Holds free base body → word_fault (at mode base) body word ≡ None →
    MayTake (setup_seen free mode base) (role_seen base.initiator) (seen (at mode base) body) message

-- ---- what the end knows besides

-- a responder to which a CN comes is opening, or its association is broken
abbrev pub IsAsked : Free → Base → Body → Type 0
IsAsked free base body = (body.link.phase ≡ Opening) ⊎ (body.link.phase ≡ Broken)

-- only an end that is up waits for the answer to an interrupt or a discard, and one that releases for that to a release
abbrev pub IsUp : Free → Base → Body → Type 0
IsUp free base body = body.link.phase ≡ Up

abbrev pub IsReleasing : Free → Base → Body → Type 0
IsReleasing free base body = body.link.phase ≡ Releasing

-- a value that is taken has the pair that the held set gives its identifier
abbrev pub HasPair : Item → Free → Base → Body → Type 0
HasPair item free base body = pair_of body.sets.held item.id ≡ Some item.pair

-- The peer has the turn while its activity is in progress; what the end reads of a transfer that wasn't handed up is what
-- the codec reads, under the pair that the set gives it.
pub record BringsValue (free : Free) (base : Base) (body : Body) : Type 0 where
  pub turn : body.receiving.active ≡ true → body.link.turn ≡ false
  pub reads : (arrived : Arrived) → base.spellings.arrived body.sets.held (joined body.receiving.pieces) ≡ Ok arrived →
      IsReadUnder (set_seen body.sets.held) (free.codec.read (set_seen body.sets.held) (joined body.receiving.pieces))

-- ---- rows

pub record OpeningsMayBeTaken : Type 0 where
  pub connect : (mode : Mode) (session : SessionConnect) (presentation : PresentationConnect) (values : List DataValue) →
      FaultlessWhere IsAsked mode (OfAssociation (Connect session presentation values)) model_connect
  pub recover : (mode : Mode) (session : SessionConnect) (presentation : PresentationConnect) (values : List DataValue) →
      FaultlessWhere IsAsked mode (OfAssociation (Connect session presentation values)) model_recover
  pub accept : (mode : Mode) (session : Accepting) (presentation : PresentationAccept) (values : List DataValue) (free : Free) (base : Base) (body : Body) →
      word_fault (at mode base) body (OfAssociation (Accept session presentation values)) ≡ None →
      MayTake (setup_seen free mode base) (role_seen base.initiator) (seen (at mode base) body) (model_accept (set_seen (set_accepted (at mode base) presentation)))
  pub refuse : (mode : Mode) (transport reason : Option ℕ) (presentation : Option PresentationReject) (values : List DataValue) →
      Faultless mode (OfAssociation (Refuse transport reason presentation values)) model_refuse
  pub disconnect : (mode : Mode) (values : List DataValue) →
      FaultlessWhere IsReleasing mode (OfAssociation (Disconnect values)) model_release_answer

pub record DataMayBeTaken : Type 0 where
  pub data_ : (item : Item) (free : Free) (base : Base) (body : Body) → HasPair item free base body →
      word_fault (at Direct base) body (data_word item) ≡ None →
      MayTake (setup_seen free Direct base) (role_seen base.initiator) (seen (at Direct base) body) (model_data (item_seen (at Direct base) item))

pub record TransfersMayBeTaken : Type 0 where
  pub resume : (activity mark : ℕ) → Faultless Reliable (OfActivities (Resume activity mark)) (model_resume activity mark)
  pub end : (number : ℕ) → FaultlessWhere BringsValue Reliable (OfActivities (End number)) (model_end number)
  pub end_ack : (number : ℕ) → Faultless Reliable (OfActivities (EndAck number)) (model_end_answer number)
  pub interrupt_ack : FaultlessWhere IsUp Reliable (OfActivities InterruptAck) model_interrupt_answer
  pub discard_ack : FaultlessWhere IsUp Reliable (OfActivities DiscardAck) model_discard_answer
