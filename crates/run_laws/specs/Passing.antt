-- What two ends send and take: each message that is taken is the one that was sent in its place of the connection, and each of its
-- presentation data values is read under the pair that the one shared set gave its context at the sending (X.226 6.2, 8.4.2).
use Rattle.std.specs.Prelude.{◌≡◌, List, [], ◌∷◌, ◌++◌, map, if◌then◌else◌, Option, Some, None}
use Rattle.osi_base.specs.declared.layer_words.Side.{Side}
use Rattle.osi_base.specs.declared.syntax.Pair.{Pair}
use Rattle.dialogue.specs.Sides.{other}
use Rattle.end_rules.specs.Messages.{Message, Session, Word, OfAssociation, OfData, OfMarks, OfActivities, DataValue, AssociationWord, Finish, Disconnect, DataWord, Values, MarkWord, Please}
use Rattle.end_rules.specs.History.{Step, sent, took, answered, passed, aborted, broke}
use Rattle.end_rules.specs.World.{World, Ends, is_side, pair_at_sending}

-- ---- what is sent and taken

abbrev pub sent_in : Step → List Message
sent_in (sent message) = message ∷ []
sent_in (answered to answer) = answer ∷ []
sent_in (aborted message) = message ∷ []
sent_in _ = []

-- ---- presentation data values: those of any message but an opening, its answers and an abort, in which all are BER

abbrev pub values_of_association : AssociationWord → List DataValue
values_of_association (Finish transport values) = values
values_of_association (Disconnect values) = values
values_of_association _ = []

abbrev pub values_of_data : DataWord → List DataValue
values_of_data (Values values) = values
values_of_data _ = []

abbrev pub values_of_marks : MarkWord → List DataValue
values_of_marks (Please tokens values) = values
values_of_marks _ = []

abbrev pub values_of_word : Word → List DataValue
values_of_word (OfAssociation word) = values_of_association word
values_of_word (OfData word) = values_of_data word
values_of_word (OfMarks word) = values_of_marks word
values_of_word (OfActivities word) = []

abbrev pub values_in : Message → List DataValue
values_in (Session word) = values_of_word word
values_in _ = []

-- ---- a message with a pair for each of its values

pub record PairedMessage : Type 0 where
  pub message : Message
  pub pairs : List (Option Pair)

-- the pairs that the shared set gave the identifiers just before its sending
abbrev pub at_sending : Ends → World → Message → PairedMessage
at_sending ends w message = record { message = message; pairs = map (λ (v : DataValue). pair_at_sending ends w v.id) (values_in message) }

-- the pairs under which its values were read
abbrev pub as_read : Message → PairedMessage
as_read message = record { message = message; pairs = map (λ (v : DataValue). v.pair) (values_in message) }

-- ---- on this connection, the oldest first

-- a break ends the connection
abbrev pub on_connection : {X : Type 0} → Step → List X → List X
on_connection broke xs = []
on_connection _ xs = xs

-- what one end sent
abbrev pub sendings : Ends → Side → World → List PairedMessage
sendings ends side [] = []
sendings ends side (m ∷ w) =
    on_connection m.step (if is_side side m.side then sendings ends side w ++ map (at_sending ends w) (sent_in m.step) else sendings ends side w)

-- what it took, and none where it passed a message over
abbrev pub read_in : Step → List (Option PairedMessage)
read_in (took message) = Some (as_read message) ∷ []
read_in passed = None ∷ []
read_in _ = []

abbrev pub readings : Side → World → List (Option PairedMessage)
readings side [] = []
readings side (m ∷ w) = on_connection m.step (if is_side side m.side then readings side w ++ read_in m.step else readings side w)

-- ---- in its place

-- each message that was taken is the one that was sent in its place
abbrev pub AreInPlace : List (Option PairedMessage) → List PairedMessage → Type 0
AreInPlace [] all = Unit {0}
AreInPlace (reading ∷ more) [] = ⊥
AreInPlace (None ∷ more) (first ∷ all) = AreInPlace more all
AreInPlace (Some reading ∷ more) (first ∷ all) = (reading.message ≡ first.message) × AreInPlace more all

abbrev pub TakenInPlace : Ends → World → Type 0
TakenInPlace ends w = (side : Side) → AreInPlace (readings (other side) w) (sendings ends side w)

-- ---- taken as sent

-- each reading is the sending in its place
abbrev pub AreAsSent : List (Option PairedMessage) → List PairedMessage → Type 0
AreAsSent [] all = Unit {0}
AreAsSent (reading ∷ more) [] = ⊥
AreAsSent (None ∷ more) (first ∷ all) = AreAsSent more all
AreAsSent (Some reading ∷ more) (first ∷ all) = (reading ≡ first) × AreAsSent more all

abbrev pub TakenAsSent : Ends → World → Type 0
TakenAsSent ends w = (side : Side) → AreAsSent (readings (other side) w) (sendings ends side w)
