-- Whatever two ends say may be written, in direct mode and in reliable mode.
use Rattle.std.specs.Prelude.{◌≡◌, true, None}
use Rattle.osi_base.specs.Octets.{AreOctets}
use Rattle.stub_tables.specs.declared.tables.Tables.{Tables}
use Rattle.dialogue.specs.declared.config.Config.{Config}
use Rattle.dialogue.specs.declared.config.Mode.{Mode}
use Rattle.dialogue.specs.declared.config.Mode.TheVariants.{Bare, Direct, Reliable}
use Rattle.apdu_spelling.specs.Writing.{written_apdu}
use Rattle.end_config.specs.Refusing.{config_refusal}
use Rattle.end_rules.specs.Base.{Spellings}
use Rattle.end_rules.specs.Messages.{Message}
use Rattle.agreement.specs.Sets.Role.{Initiator, Responder}
use Rattle.end_model.specs.BothEnds.{Common, base_at}
use Rattle.end_model.specs.DirectEnds.{ProposesRightly}
use Rattle.transfer_spelling.specs.Laws.{IsModule}
use Rattle.association_worlds.specs.association_reading.Transfers.{transferred}
use Rattle.association_worlds.specs.InTransit.{IsCarried}
use Rattle.said_words.specs.Calls.{AreNamed}
use Rattle.said_words.specs.Words.{IsMessage}
use Rattle.said_words.specs.Laws.{ProposesContexts}

-- the references of an association are sent in reliable mode alone
abbrev pub AreReferences : Mode → Config → Type 0
AreReferences Reliable config = AreOctets config.reference × AreOctets config.common
AreReferences Direct config = Unit {0}
AreReferences Bare config = Unit {0}

-- A configuration of a mode that no end refuses, with the octets and the names that its type keeps.
pub record IsEndIn (which : Mode) (config : Config) : Type 0 where
  pub mode : config.mode ≡ which
  pub accepted : config_refusal config ≡ None
  pub calling : AreOctets config.calling
  pub called : AreOctets config.called
  pub references : AreReferences which config
  pub contexts : AreNamed config.contexts

abbrev pub IsEnd : Config → Type 0
IsEnd config = IsEndIn Direct config

abbrev pub pair_in : Mode → Tables → Spellings → Config → Config → Common
pair_in mode tables spellings a b = record { tables = tables; spellings = spellings; mode = mode; of_initiator = a; of_responder = b }

-- and so are transfers, as every association spells them
abbrev pub SpellsTransfersIn : Mode → Tables → Spellings → Type 0
SpellsTransfersIn Reliable tables spellings = spellings.transfer ≡ transferred tables
SpellsTransfersIn Direct tables spellings = Unit {0}
SpellsTransfersIn Bare tables spellings = Unit {0}

abbrev pub SaidAreCarried : Type 0
SaidAreCarried =
    (mode : Mode) (tables : Tables) (spellings : Spellings) (a b : Config) (message : Message) → IsModule tables → spellings.apdu ≡ written_apdu tables → SpellsTransfersIn mode tables spellings →
    IsEndIn mode a → a.initiator ≡ true → IsEndIn mode b → ProposesRightly (pair_in mode tables spellings a b) → ProposesContexts (pair_in mode tables spellings a b) →
    IsMessage (base_at Initiator (pair_in mode tables spellings a b)) (base_at Responder (pair_in mode tables spellings a b)) message →
    IsCarried tables message
