-- Two ends of direct mode and the set of contexts that they share, from what they send alone: what it is when each message
-- is sent, and that a value is read under the pair that it gave then.
use Rattle.std.specs.Prelude.{◌≡◌, ℤ, List, [], ◌∷◌, ◌++◌, map, Option, Ok}
use Rattle.osi_base.specs.declared.layer_words.Side.{Side}
use Rattle.osi_base.specs.declared.layer_words.Side.TheVariants.{A, B}
use Rattle.osi_base.specs.declared.layer_words.SetItem.{SetItem}
use Rattle.dialogue.specs.declared.config.Config.{Config}
use Rattle.dialogue.specs.declared.config.Mode.{Mode}
use Rattle.dialogue.specs.declared.call.Call.{Call}
use Rattle.dialogue.specs.declared.indication.Indication.{Indication}
use Rattle.stub_tables.specs.declared.tables.Tables.{Tables}
use Rattle.end_rules.specs.Base.{Base, Spellings, Fault}
use Rattle.end_rules.specs.Messages.{Message, Session, OfData, Values, DataValue}
use Rattle.end_rules.specs.State.{Body}
use Rattle.osi_base.specs.SetPlaces.{pair_of}
use Rattle.end_rules.specs.Calling.{can_call}
use Rattle.end_rules.specs.Requesting.{due_of}
use Rattle.end_rules.specs.Reacting.{Passes, Takes, Fails, react}
use Rattle.end_rules.specs.World.{Shared, shared_first, shared_sent, shared_answered}
use Rattle.agreement.specs.Sets.{Role}
use Rattle.agreement.specs.Sets.Role.{Initiator, Responder}
use Rattle.end_model.specs.Seen.{Free}
use Rattle.end_model.specs.Acting.{ReadsBack}
use Rattle.end_model.specs.Requests.{after_called}
use Rattle.end_model.specs.BothEnds.{Common, base_at, Two, two_new, body_at, coming_to, stepped, both_broke, WritesAll}
use Rattle.end_model.specs.DirectEnds.{direct_common, ProposesRightly}

abbrev pub side_of : Role → Side
side_of Initiator = A
side_of Responder = B

-- the shared set after these messages, sent of itself, and after these answers to a message
abbrev pub shared_all_sent : Mode → Side → List Message → Shared → Shared
shared_all_sent mode side [] shared = shared
shared_all_sent mode side (message ∷ messages) shared = shared_all_sent mode side messages (shared_sent mode side message shared)

abbrev pub shared_all_answered : Base → Message → List Message → Shared → Shared
shared_all_answered base to [] shared = shared
shared_all_answered base to (answer ∷ answers) shared = shared_all_answered base to answers (shared_answered base to answer shared)

-- for each message that is on its way, the shared set just before it was sent
pub record SetsSent : Type 0 where
  pub to_a : List (List SetItem)
  pub to_b : List (List SetItem)

abbrev pub sets_to : Role → SetsSent → List (List SetItem)
sets_to Initiator sets = sets.to_a
sets_to Responder sets = sets.to_b

abbrev pub sets_stepped : Role → List (List SetItem) → List (List SetItem) → SetsSent → SetsSent
sets_stepped Initiator left sent sets = record { to_a = left; to_b = sets.to_b ++ sent }
sets_stepped Responder left sent sets = record { to_a = sets.to_a ++ sent; to_b = left }

abbrev pub before : Shared → List Message → List (List SetItem)
before shared messages = map (λ (m : Message). shared.set) messages

abbrev pub none_sent : SetsSent
none_sent = record { to_a = []; to_b = [] }

-- What two ends reach outside reliable mode, with what they share.
pub data Shares (common : Common) : Two → Shared → SetsSent → Type 0 where
  begins : Shares common (two_new common) (shared_first (base_at Initiator common)) none_sent
  calls : (two : Two) (shared : Shared) (sets : SetsSent) (role : Role) (call : Call) (answer : Option ℤ) → Shares common two shared sets
      → can_call (base_at role common) (body_at role two) call ≡ Ok answer
      → Shares common (stepped role (after_called common.mode (base_at role common) (body_at role two) call answer)
      (coming_to role two) (due_of (base_at role common) (body_at role two) call (Ok answer)) two)
      (shared_all_sent common.mode (side_of role) (due_of (base_at role common) (body_at role two) call (Ok answer)) shared)
      (sets_stepped role (sets_to role sets) (before shared (due_of (base_at role common) (body_at role two) call (Ok answer))) sets)
  takes : (two : Two) (shared : Shared) (sets : SetsSent) (role : Role) (message : Message) (left : List Message)
      (set : List SetItem) (sets_left : List (List SetItem))
      (body : Body) (answers : List Message) (shown : List Indication)
      → Shares common two shared sets
      → coming_to role two ≡ message ∷ left → sets_to role sets ≡ set ∷ sets_left → react (base_at role common) (body_at role two) message ≡ Takes body answers shown
      → Shares common (stepped role body left answers two) (shared_all_answered (base_at role common) message answers shared) (sets_stepped role sets_left (before shared answers) sets)
  passes : (two : Two) (shared : Shared) (sets : SetsSent) (role : Role) (message : Message) (left : List Message)
      (set : List SetItem) (sets_left : List (List SetItem))
      → Shares common two shared sets
      → coming_to role two ≡ message ∷ left → sets_to role sets ≡ set ∷ sets_left → react (base_at role common) (body_at role two) message ≡ Passes
      → Shares common (stepped role (body_at role two) left [] two) shared (sets_stepped role sets_left [] sets)
  fails : (two : Two) (shared : Shared) (sets : SetsSent) (role : Role) (message : Message) (left : List Message)
      (set : List SetItem) (sets_left : List (List SetItem))
      (fault : Fault) (body : Body) (aborts : List Message) (shown : List Indication)
      → Shares common two shared sets
      → coming_to role two ≡ message ∷ left → sets_to role sets ≡ set ∷ sets_left → react (base_at role common) (body_at role two) message ≡ Fails fault body aborts shown
      → Shares common (stepped role body left aborts two) (shared_all_sent common.mode (side_of role) aborts shared) (sets_stepped role sets_left (before shared aborts) sets)
  breaks : (two : Two) (shared : Shared) (sets : SetsSent) → Shares common two shared sets → Shares common (both_broke common two) shared none_sent

-- Taken as sent: the value of a message of data that an end takes has the pair that its own set gives the identifier, and that is
-- the pair that the shared set gave it when the value was sent.
abbrev pub DirectAsSent : Type 0
DirectAsSent =
    (free : Free) (tables : Tables) (spellings : Spellings) (a b : Config) → WritesAll free →
    ReadsBack (base_at Initiator (direct_common tables spellings a b)) → ProposesRightly (direct_common tables spellings a b) →
    (two : Two) (shared : Shared) (sets : SetsSent) (role : Role) (value : DataValue) (left : List Message)
    (set : List SetItem) (sets_left : List (List SetItem)) (body : Body) (answers : List Message) (shown : List Indication) →
    Shares (direct_common tables spellings a b) two shared sets →
    coming_to role two ≡ Session (OfData (Values (value ∷ []))) ∷ left → sets_to role sets ≡ set ∷ sets_left →
    react (base_at role (direct_common tables spellings a b)) (body_at role two) (Session (OfData (Values (value ∷ [])))) ≡ Takes body answers shown →
    (pair_of (body_at role two).sets.held value.id ≡ value.pair) × (pair_of set value.id ≡ value.pair)
