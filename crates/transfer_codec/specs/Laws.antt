-- The model's codec over the codecs' spellings of APDUs: it is shown to exist for each spelling of transfers that is read back.
use Rattle.std.specs.Prelude.{ℕ, Bool, List, Result}
use Rattle.osi_base.specs.declared.layer_words.SetItem.{SetItem}
use Rattle.stub_tables.specs.declared.tables.Tables.{Tables}
use Rattle.dialogue.specs.declared.config.Config.{Config}
use Rattle.dialogue.specs.declared.config.Mode.{Mode}
use Rattle.end_rules.specs.Base.{Base, Item, Fault, Arrived}
use Rattle.end_wire.specs.Values.{spellings_with}
use Rattle.end_model.specs.Seen.{Free}
use Rattle.transfer_spelling.specs.reliable_model.Codecs.{SpellsTransfers, Carries}
use Rattle.transfer_spelling.specs.Laws.{IsModule}

-- what an end stands on, where APDUs are spelled by the codecs
abbrev pub base_with : Tables → Config → Bool → Mode → (Item → List ℕ) → (List SetItem → List ℕ → Result Arrived Fault) → Base
base_with tables config initiator mode transfer arrived =
    record { tables = tables; config = config; initiator = initiator; mode = mode; spellings = spellings_with tables transfer arrived }

abbrev pub TransfersHaveACodec : Type 0
TransfersHaveACodec =
    (tables : Tables) (config : Config) (initiator : Bool) (mode : Mode) (transfer : Item → List ℕ) (arrived : List SetItem → List ℕ → Result Arrived Fault) →
    IsModule tables → SpellsTransfers (base_with tables config initiator mode transfer arrived) →
    (free : Free) × Carries free (base_with tables config initiator mode transfer arrived)
