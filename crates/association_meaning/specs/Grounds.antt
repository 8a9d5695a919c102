-- What reading stands on, and what it gives.
use Rattle.std.specs.Prelude.{◌≡◌, Result, Ok, Err}
use Rattle.stub_tables.specs.declared.tables.Tables.{Tables}
use Rattle.dialogue.specs.declared.config.Config.{Config}
use Rattle.end_rules.specs.Base.{Base, Fault, base_of}
use Rattle.association_intake.specs.association_reading.Transfers.{association_spellings}
use Rattle.association_words.specs.Seen.{seen_fault}
use Rattle.association_meaning.specs.declared.basis.Halt.{Halt}
use Rattle.association_meaning.specs.declared.basis.Halt.TheVariants.{Faulty, NoMemory}

-- the base of an end of an association that is made with these tables and this configuration
abbrev pub association_base : Tables → Config → Base
association_base tables config = base_of tables config (association_spellings tables)

-- The fault was told, or memory was refused.
abbrev pub FailsAs : {B : Type 0} → Halt → Result B Fault → Type 0
FailsAs (Faulty fault) read = read ≡ Err (seen_fault fault)
FailsAs NoMemory read = Unit {0}

-- What a function returned is what reading gives, unless memory was refused.
abbrev pub GivesAs : {A B : Type 0} → (A → B) → Result A Halt → Result B Fault → Type 0
GivesAs see (Ok x) read = read ≡ Ok (see x)
GivesAs see (Err e) read = FailsAs e read
