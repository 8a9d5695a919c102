-- What two ends of a run send, take and are shown.
use Rattle.std.specs.Prelude.{◌≡◌, List, [], ◌∷◌, ◌++◌, map, if◌then◌else◌}
use Rattle.osi_base.specs.declared.layer_words.Side.{Side}
use Rattle.dialogue.specs.Sides.{other}
use Rattle.run_laws.specs.Passing.{PairedMessage}
use Rattle.stub_tables.specs.declared.tables.Tables.{Tables}
use Rattle.dialogue.specs.declared.event.Entry.{Entry}
use Rattle.end_rules.specs.Messages.{Message, Session, Word, OfData, DataWord, Values, DataValue}
use Rattle.end_rules.specs.History.{Step, called, sent, encoded, fed, took, answered, passed, fault, aborted, feed_end, gave, broke}
use Rattle.end_rules.specs.World.{World, Ends, is_side, pair_at_sending}
use Rattle.run_laws.specs.Showing.{indications_at}
use Rattle.bare_duo.specs.Shows.{shown_all}

-- ---- what is sent and taken

abbrev pub sent_in : Step → List Message
sent_in (sent m) = m ∷ []
sent_in (answered to m) = m ∷ []
sent_in (aborted m) = m ∷ []
sent_in (called call reply) = []
sent_in (encoded context) = []
sent_in (fed octets) = []
sent_in (took m) = []
sent_in passed = []
sent_in (fault layer place reason) = []
sent_in feed_end = []
sent_in (gave n) = []
sent_in broke = []

abbrev pub took_in : Step → List Message
took_in (took m) = m ∷ []
took_in (sent m) = []
took_in (answered to m) = []
took_in (aborted m) = []
took_in (called call reply) = []
took_in (encoded context) = []
took_in (fed octets) = []
took_in passed = []
took_in (fault layer place reason) = []
took_in feed_end = []
took_in (gave n) = []
took_in broke = []

-- what one end sent, and what it took, oldest first
abbrev pub sent_by : Side → World → List Message
sent_by side [] = []
sent_by side (m ∷ w) = if is_side side m.side then sent_by side w ++ sent_in m.step else sent_by side w

abbrev pub taken_by : Side → World → List Message
taken_by side [] = []
taken_by side (m ∷ w) = if is_side side m.side then taken_by side w ++ took_in m.step else taken_by side w

-- ---- taken as sent

abbrev pub values_in_data : DataWord → List DataValue
values_in_data (Values values) = values
values_in_data _ = []

abbrev pub values_in_word : Word → List DataValue
values_in_word (OfData word) = values_in_data word
values_in_word _ = []

abbrev pub values_in : Message → List DataValue
values_in (Session word) = values_in_word word
values_in _ = []

-- with the pairs that the one shared set gave the identifiers just before its sending, and with those under which its
-- values were read
abbrev pub at_sending : Ends → World → Message → PairedMessage
at_sending ends w m = record { message = m; pairs = map (λ (v : DataValue). pair_at_sending ends w v.id) (values_in m) }

abbrev pub as_read : Message → PairedMessage
as_read m = record { message = m; pairs = map (λ (v : DataValue). v.pair) (values_in m) }

abbrev pub sendings : Ends → Side → World → List PairedMessage
sendings ends side [] = []
sendings ends side (m ∷ w) = if is_side side m.side then sendings ends side w ++ map (at_sending ends w) (sent_in m.step) else sendings ends side w

abbrev pub takings : Side → World → List PairedMessage
takings side w = map as_read (taken_by side w)

-- what the second list has is the beginning of the first
pub record BeginsWith {X : Type 0} (all front : List X) : Type 0 where
  pub more : List X
  pub whole : all ≡ front ++ more

-- Each message taken is the one that the other end sent in its place, and each of its values was read under the pair that
-- the shared set gave its identifier at its sending.
abbrev pub TakenAsSent : Ends → World → Type 0
TakenAsSent ends w = (side : Side) → BeginsWith (sendings ends side w) (takings (other side) w)

-- ---- what is shown

-- Carries to an end showed what its takings show, in their order, and nothing else.
abbrev pub ShownAsTaken : Tables → List Entry → World → Type 0
ShownAsTaken tables told w = (side : Side) → indications_at side told ≡ shown_all tables (taken_by side w)
