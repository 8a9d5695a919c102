-- What a contract sees of an end of an association: what it stands on, and the end with its octets as the rules have it.
use Rattle.std.specs.Prelude.{◌≡◌, List}
use Rattle.stub_tables.specs.declared.tables.Tables.{Tables}
use Rattle.dialogue.specs.declared.config.Config.{Config}
use Rattle.end_rules.specs.Base.{Base, base_of}
use Rattle.end_rules.specs.History.{Step, History}
use Rattle.association_line.specs.association_reading.Transfers.{association_spellings}
use Rattle.association_line.specs.Line.{End, after_all, end_of}

-- its tables, its configuration, and what it holds with its line
pub record EndView : Type 0 where
  pub tables : Tables
  pub config : Config
  pub end : End

abbrev pub base : EndView → Base
base e = base_of e.tables e.config (association_spellings e.tables)

-- These steps were made, oldest first.
pub record Stepped (old new : EndView) (steps : List Step) : Type 0 where
  pub tables : new.tables ≡ old.tables
  pub config : new.config ≡ old.config
  pub end : new.end ≡ after_all (base old) old.end steps

-- the end stands for a history
abbrev pub StandsFor : EndView → History → Type 0
StandsFor e h = e.end ≡ end_of (base e) h
