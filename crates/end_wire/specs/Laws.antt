-- The laws of messages in octets.
use Rattle.std.specs.Prelude.{◌≡◌, ℕ, ◌<◌, List, ◌++◌, length}
use Rattle.osi_base.specs.declared.syntax.Syntax.{Syntax}
use Rattle.osi_base.specs.declared.syntax.Syntax.TheVariants.{Ber}
use Rattle.osi_base.specs.declared.layer_words.SetItem.{SetItem}
use Rattle.osi_base.specs.Octets.{AreOctets}
use Rattle.stub_tables.specs.declared.tables.Tables.{Tables}
use Rattle.stub_tables.specs.declared.apdu.Apdu.{Apdu}
use Rattle.stub_tables.specs.Readable.{IsReadable}
use Rattle.apdu_spelling.specs.Writing.{IsWritable}
use Rattle.dialogue.specs.declared.config.Config.{Config}
use Rattle.osi_base.specs.SetPlaces.{pair_of}
use Rattle.end_rules.specs.State.{bare_set}
use Rattle.end_rules.specs.Messages.{ValueContent, Remote, Message}
use Rattle.end_rules.specs.Hearing.{syntax_of, head_of}
use Rattle.end_wire.specs.Heads.{head_at}
use Rattle.end_wire.specs.Values.{IsContent}
use Rattle.end_wire.specs.Bare.{IsWire, bare_message, bare_value, bare_base, written, first_at, Short, Whole}

-- Octets are one content at most.
abbrev pub OneContent : Type 0
OneContent = (tables : Tables) (syntax : Syntax) (octets : List ℕ) (a b : ValueContent) → IsReadable tables
    → IsContent tables syntax octets a → IsContent tables syntax octets b → a ≡ b

-- What is heard in a content is what its octets say.
abbrev pub ContentSays : Type 0
ContentSays = (tables : Tables) (config : Config) (held : List SetItem) (octets : List ℕ) (content : ValueContent) → IsReadable tables
    → IsContent tables (syntax_of (pair_of held 0)) octets content
    → head_of (bare_base tables config) (bare_value held content) ≡ head_at tables (syntax_of (pair_of held 0)) octets

-- What is written of an APDU is one message, which stands first whatever follows.
abbrev pub WrittenIsFirst : Type 0
WrittenIsFirst = (tables : Tables) (apdu : Apdu) (more : List ℕ) → IsReadable tables → IsWritable tables Ber apdu
    → IsWire tables (bare_set tables) (bare_message (bare_set tables) (Remote apdu)) (written tables (bare_message (bare_set tables) (Remote apdu)))
    × (first_at (written tables (bare_message (bare_set tables) (Remote apdu)) ++ more) ≡ Whole (length (written tables (bare_message (bare_set tables) (Remote apdu)))))

-- A message that came stands first, whatever follows; a proper beginning of it is too short.
abbrev pub WireIsFirst : Type 0
WireIsFirst = (tables : Tables) (held : List SetItem) (message : Message) (octets more : List ℕ) → IsWire tables held message octets → first_at (octets ++ more) ≡ Whole (length octets)

abbrev pub BeginningIsShort : Type 0
BeginningIsShort = (tables : Tables) (held : List SetItem) (message : Message) (front back : List ℕ) → AreOctets (front ++ back)
    → IsWire tables held message (front ++ back) → 0 < length back → first_at front ≡ Short

-- Octets spell one message at most.
abbrev pub OneMessage : Type 0
OneMessage = (tables : Tables) (held : List SetItem) (a b : Message) (octets : List ℕ) → IsReadable tables
    → IsWire tables held a octets → IsWire tables held b octets → a ≡ b
