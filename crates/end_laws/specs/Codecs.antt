-- What two ends have in common where APDUs are spelled by the codecs; how transfers are spelled is left free, as they stand
-- in reliable mode alone.
use Rattle.std.specs.Prelude.{◌≡◌, ℕ, List, None, Result}
use Rattle.osi_base.specs.declared.layer_words.SetItem.{SetItem}
use Rattle.dialogue.specs.declared.config.Config.{Config}
use Rattle.dialogue.specs.declared.config.Mode.TheVariants.{Direct}
use Rattle.stub_tables.specs.declared.tables.Tables.{Tables}
use Rattle.end_rules.specs.Base.{Item, Fault, Arrived}
use Rattle.end_wire.specs.Values.{spellings_with}
use Rattle.end_config.specs.Refusing.{config_refusal}
use Rattle.end_model.specs.BothEnds.{Common, bare_common}
use Rattle.end_model.specs.DirectEnds.{direct_common}

pub record Transfers : Type 0 where
  pub octets : Item → List ℕ
  pub arrived : List SetItem → List ℕ → Result Arrived Fault

abbrev pub bare_ends : Tables → Transfers → Config → Config → Common
bare_ends tables transfers a b = bare_common tables (spellings_with tables transfers.octets transfers.arrived) a b

abbrev pub direct_ends : Tables → Transfers → Config → Config → Common
direct_ends tables transfers a b = direct_common tables (spellings_with tables transfers.octets transfers.arrived) a b

-- a configuration of direct mode that no end refuses
pub record IsDirect (config : Config) : Type 0 where
  pub mode : config.mode ≡ Direct
  pub accepted : config_refusal config ≡ None
