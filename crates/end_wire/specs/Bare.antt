-- Messages of bare mode in octets: each is one whole BER value, one straight behind the other (this project's own
-- mode; X.690 8.1).
use Rattle.std.specs.Prelude.{◌≡◌, ℕ, List, [], ◌∷◌, ◌++◌, take, drop, false, Result, Ok, Err}
use Rattle.osi_base.specs.declared.layer_words.SetItem.{SetItem}
use Rattle.osi_base.specs.Limits.{most_octets}
use Rattle.asn1_types.specs.Value.{Value}
use Rattle.ber_spelling.specs.declared.fault.ReadFault.{ReadFault}
use Rattle.ber_spelling.specs.declared.fault.ReadFault.TheVariants as fault
use Rattle.ber_spelling.specs.Rules.{read_at}
use Rattle.stub_tables.specs.declared.tables.Tables.{Tables}
use Rattle.stub_tables.specs.AnyValue.{any_value_rows, any_value_row}
use Rattle.stub_tables.specs.Apdus.{IsWhole}
use Rattle.dialogue.specs.declared.config.Config.{Config}
use Rattle.dialogue.specs.declared.config.Mode.TheVariants.{Bare}
use Rattle.end_rules.specs.Base.{Base}
use Rattle.osi_base.specs.SetPlaces.{pair_of}
use Rattle.end_rules.specs.Messages.{ValueContent, DataValue, Values, OfData, Message, Session, Transport, Word, DataWord, AlterContext, AlterContextAck, OfAssociation, OfMarks, OfActivities}
use Rattle.end_rules.specs.Hearing.{syntax_of}
use Rattle.end_wire.specs.Values.{IsContent, written_content, bare_spellings}

-- the base of an end of bare mode
abbrev pub bare_base : Tables → Config → Base
bare_base tables config =
    record { tables = tables; config = config; initiator = config.initiator; mode = Bare; spellings = bare_spellings tables }

-- ---- messages

-- a value on context 0, under the pair that the set gives it
abbrev pub bare_value : List SetItem → ValueContent → DataValue
bare_value held content = record { id = 0; pair = pair_of held 0; content = content }

abbrev pub bare_message : List SetItem → ValueContent → Message
bare_message held content = Session (OfData (Values (bare_value held content ∷ [])))

-- The octets spell the message: they are one whole value, and its content is what they are under the pair that the set
-- gives context 0.
pub record IsWire (tables : Tables) (held : List SetItem) (message : Message) (octets : List ℕ) : Type 0 where
  pub content : ValueContent
  pub message_is : message ≡ bare_message held content
  pub whole : IsWhole octets
  pub means : IsContent tables (syntax_of (pair_of held 0)) octets content

-- ---- the one spelling in which a message is written

abbrev pub written_values : Tables → List DataValue → List ℕ
written_values tables [] = []
written_values tables (value ∷ values) = written_content tables (syntax_of value.pair) value.content ++ written_values tables values

abbrev pub written_data : Tables → DataWord → List ℕ
written_data tables (Values values) = written_values tables values
written_data tables (AlterContext add delete) = []
written_data tables (AlterContextAck answers) = []

abbrev pub written_word : Tables → Word → List ℕ
written_word tables (OfData word) = written_data tables word
written_word tables (OfAssociation word) = []
written_word tables (OfMarks word) = []
written_word tables (OfActivities word) = []

abbrev pub written : Tables → Message → List ℕ
written tables (Session word) = written_word tables word
written tables (Transport unit) = []

-- ---- what stands first in octets, whatever it means

pub data First : Type 0 where
  -- less than one whole value
  Short : First
  -- one whole value, with so many octets
  Whole : (used : ℕ) → First
  -- no value, however it goes on: the field at this place breaks the rules
  Faulty : (place : ℕ) → First

abbrev pub beginning_of : Result (Value × ℕ) ReadFault → First
beginning_of (Ok x) = Whole x.1
beginning_of (Err fault.Short) = Short
beginning_of (Err (fault.NotSpelled place kind)) = Faulty place
beginning_of (Err (fault.TooDeep place)) = Faulty place
beginning_of (Err (fault.TooLong place)) = Faulty place
beginning_of (Err fault.NoMemory) = Short

-- an APDU has at most 262,144 octets
unfoldable pub first_at : List ℕ → First
first_at octets = beginning_of (read_at any_value_rows any_value_row false most_octets octets)

-- the first message, and the octets behind it
abbrev pub front : First → List ℕ → List ℕ
front (Whole used) octets = take used octets
front Short octets = octets
front (Faulty place) octets = octets

abbrev pub behind : First → List ℕ → List ℕ
behind (Whole used) octets = drop used octets
behind Short octets = octets
behind (Faulty place) octets = octets
