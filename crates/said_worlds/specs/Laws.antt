-- What is presumed of the messages of two ends whose lines are octets, of two ends of direct mode and of two ends of reliable mode.
use Rattle.std.specs.Prelude.{◌≡◌, true, false}
use Rattle.stub_tables.specs.declared.tables.Tables.{Tables}
use Rattle.dialogue.specs.declared.config.Config.{Config}
use Rattle.dialogue.specs.declared.config.Mode.{Mode}
use Rattle.dialogue.specs.declared.config.Mode.TheVariants.{Direct, Reliable}
use Rattle.end_rules.specs.Cases.{calc, config_of}
use Rattle.end_laws.specs.Codecs.{Transfers, direct_ends}
use Rattle.transfer_spelling.specs.Laws.{IsModule}
use Rattle.transfer_laws.specs.Laws.{reliable_ends}
use Rattle.said_spellings.specs.association_worlds.Laws.{IsSaid}
use Rattle.said_spellings.specs.Laws.{IsEndIn}

-- A module without any type, and two configurations of a mode that no end refuses, the first of an initiator.
pub record AreEndsIn (mode : Mode) (tables : Tables) (a b : Config) : Type 0 where
  pub module_s : IsModule tables
  pub of_a : IsEndIn mode a
  pub initiator : a.initiator ≡ true
  pub of_b : IsEndIn mode b

abbrev pub AreEnds : Tables → Config → Config → Type 0
AreEnds tables a b = AreEndsIn Direct tables a b

abbrev pub DirectIsSaid : Type 0
DirectIsSaid = (tables : Tables) (transfers : Transfers) (a b : Config) → AreEnds tables a b → IsSaid (direct_ends tables transfers a b)

abbrev pub ReliableIsSaid : Type 0
ReliableIsSaid = (tables : Tables) (a b : Config) → AreEndsIn Reliable tables a b → IsSaid (reliable_ends tables a b)

-- Such ends there are, in both modes: a module of two operations, and a context of its own at the opening.
abbrev pub EndsAreMet : Type 0
EndsAreMet = AreEnds calc (config_of true Direct) (config_of false Direct) × AreEndsIn Reliable calc (config_of true Reliable) (config_of false Reliable)
