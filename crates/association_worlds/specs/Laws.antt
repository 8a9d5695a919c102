-- The laws of two ends whose lines are octets, of what is asked of the messages that they send.
use Rattle.std.specs.Prelude.{◌≡◌, ℕ, ◌<◌, List, ◌∷◌, length, Some, false, Ok}
use Rattle.dialogue.specs.declared.indication.Indication.{Indication}
use Rattle.association_reading.specs.end_rules.Base.{Fault, is_bare}
use Rattle.association_reading.specs.end_rules.Messages.{Message, Word, Session, unit_of}
use Rattle.association_reading.specs.end_rules.State.{Body}
use Rattle.association_reading.specs.end_rules.Reacting.{Takes, Fails, react}
use Rattle.association_reading.specs.association_wire.Units.{user_octets}
use Rattle.association_reading.specs.association_wire.Written.{with_user}
use Rattle.association_reading.specs.Laws.{IsOfSession}
use Rattle.association_reading.specs.Meaning.{meaning}
use Rattle.agreement.specs.Sets.{Role, other}
use Rattle.said_words.specs.end_model.BothEnds.{Common, base_at, Two, body_at, coming_to}
use Rattle.said_words.specs.reliable_model.Ledgers.{Ledger, ReachedWithLedger}
use Rattle.association_reading.specs.Front.{Intake, Short, first_in}
use Rattle.association_reading.specs.Reacting.{react_to}
use Rattle.said_words.specs.Calls.{Speaks}
use Rattle.association_worlds.specs.Worlds.{LineEnds, end_at, Spoken}
use Rattle.association_worlds.specs.InTransit.{AreCarried, front_of, SentMessage, texts, IsWay, Way}

-- Whatever is on its way may be written, and what comes next to an end is heard as itself: its octets mean it to the end as it
-- is then.
pub record IsHeard (common : Common) : Type 0 where
  pub carried : (two : Two) (ledger : Ledger) → Speaks common two ledger → (role : Role) → AreCarried common.tables (coming_to role two)
  pub heard : (two : Two) (ledger : Ledger) → Speaks common two ledger → (role : Role) (message : Message) (left : List Message) → coming_to role two ≡ message ∷ left
      → react_to (base_at role common) (body_at role two) (front_of common.tables message) ≡ Some (react (base_at role common) (body_at role two) message)

-- So it is where the mode isn't bare, neither end ever fails, and each word that is taken means itself.
pub record IsMeant (common : Common) : Type 0 where
  pub associated : is_bare common.mode ≡ false
  pub carried : (two : Two) (ledger : Ledger) → Speaks common two ledger → (role : Role) → AreCarried common.tables (coming_to role two)
  pub faultless : (two : Two) (ledger : Ledger) → ReachedWithLedger common two ledger → (role : Role) (message : Message) (left : List Message)
      (fault : Fault) (body : Body) (aborts : List Message) (shown : List Indication)
      → coming_to role two ≡ message ∷ left → react (base_at role common) (body_at role two) message ≡ Fails fault body aborts shown → ⊥
  pub meant : (two : Two) (ledger : Ledger) → Speaks common two ledger → (role : Role) (word : Word) (left : List Message) (body : Body) (answers : List Message) (shown : List Indication) (start : ℕ)
      → coming_to role two ≡ Session word ∷ left → react (base_at role common) (body_at role two) (Session word) ≡ Takes body answers shown
      → meaning (base_at role common) (body_at role two) (with_user (user_octets (base_at role common).tables word) (unit_of word)) start ≡ Ok word

-- What is presumed of the messages of such ends: each may be written, and a word that asks something of the presentation means
-- itself where it is taken. That the words of the session alone do is proved.
pub record IsSaid (common : Common) : Type 0 where
  pub carried : (two : Two) (ledger : Ledger) → Speaks common two ledger → (role : Role) → AreCarried common.tables (coming_to role two)
  pub meant : (two : Two) (ledger : Ledger) → Speaks common two ledger → (role : Role) (word : Word) (left : List Message) (body : Body) (answers : List Message) (shown : List Indication) (start : ℕ)
      → (IsOfSession word → ⊥) → coming_to role two ≡ Session word ∷ left → react (base_at role common) (body_at role two) (Session word) ≡ Takes body answers shown
      → meaning (base_at role common) (body_at role two) (with_user (user_octets (base_at role common).tables word) (unit_of word)) start ≡ Ok word

-- neither end ever fails
abbrev pub AreFaultless : Common → Type 0
AreFaultless common =
    (two : Two) (ledger : Ledger) → ReachedWithLedger common two ledger → (role : Role) (message : Message) (left : List Message)
    (fault : Fault) (body : Body) (aborts : List Message) (shown : List Indication) →
    coming_to role two ≡ message ∷ left → react (base_at role common) (body_at role two) message ≡ Fails fault body aborts shown → ⊥

-- A word of the session alone means itself whatever the sets, so that less is to be presumed.
abbrev pub SaidIsMeant : Type 0
SaidIsMeant = (common : Common) → is_bare common.mode ≡ false → AreFaultless common → IsSaid common → IsMeant common

abbrev pub MeantIsHeard : Type 0
MeantIsHeard = (common : Common) → IsMeant common → IsHeard common

-- What two ends with octets reach is what two ends with messages reach.
pub record IsSpelled (common : Common) (ends : LineEnds) : Type 0 where
  pub two : Two
  pub ledger : Ledger
  pub speaks : Speaks common two ledger
  pub bodies : (role : Role) → (end_at role ends).body ≡ body_at role two
  pub ways : (role : Role) → Way common.tables (end_at role ends).line.came (end_at (other role) ends).line.waiting (coming_to role two)

abbrev pub OctetsAreMessages : Type 0
OctetsAreMessages = (common : Common) (ends : LineEnds) → IsHeard common → Spoken common ends → IsSpelled common ends

-- Where nothing whole stands first at the taker, some octets of the next message wait at the sender: more octets wait there than
-- those behind the message have.
abbrev pub WholeWaitsForNothing : Type 0
WholeWaitsForNothing =
    (common : Common) (intake : Intake) (waiting : List ℕ) (coming : List Message) (way : IsWay common.tables intake waiting coming) (next : SentMessage) (later : List SentMessage) →
    way.ahead ≡ next ∷ later → first_in intake ≡ Short → length (texts common.tables later) < length waiting

-- Neither end finds a fault in what came, whatever stands first in it.
abbrev pub NothingFails : Type 0
NothingFails =
    (common : Common) (ends : LineEnds) → IsMeant common → Spoken common ends →
    (role : Role) (intake : Intake) (fault : Fault) (body : Body) (aborts : List Message) (shown : List Indication) →
    (end_at role ends).line.came ≡ Some intake → react_to (base_at role common) (end_at role ends).body (first_in intake) ≡ Some (Fails fault body aborts shown) → ⊥
