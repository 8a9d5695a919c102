-- What a module or a file that isn't read makes the program end with, whatever the command is.
use Rattle.std.specs.Prelude.{ℕ, ◌≡◌, ◌⊎◌, List, Option, Some}
use Rattle.osi_base.specs.Outside.{FaultsRose, FileMap, Lacks, grown}
use Rattle.stub_tables.specs.declared.tables.Tables.{Tables}
use Rattle.module_reading.specs.declared.fault.ModuleKind.{ModuleKind}
use Rattle.module_reading.specs.declared.fault.ModuleFault.TheVariants as faults
use Rattle.module_reading.specs.Modules.{HasTables, IsRefused}
use Rattle.osi_commands.specs.Answers.{unread_answer, module_answer}
use Rattle.osi_commands.specs.Reading.{WasRead}

-- ReadFault: the files' count rose in this call, or they tell that they lack the file; and it is told by its name.
pub record IsUnread (told : Option FileMap) (old new : ℕ) (name : List ℕ) (before after : Option (List ℕ)) : Type 0 where
  pub cause : FaultsRose old new ⊎ Lacks told name
  pub written : after ≡ grown before (unread_answer name).text

-- ModuleRefused: the module of this name was read, and this is its fault.
pub record IsRefusedModule (told : Option FileMap) (old new : ℕ) (name : List ℕ) (before after : Option (List ℕ)) : Type 0 where
  pub text : List ℕ
  pub module_read : WasRead told old new name (Some text)
  pub line : ℕ
  pub column : ℕ
  pub kind : ModuleKind
  pub fault : IsRefused text (faults.At line column kind)
  pub written : after ≡ grown before (module_answer line column kind).text

-- a module without tables, and one without a fault
abbrev pub HasNoTables : List ℕ → Type 0
HasNoTables text = (tables : Tables) → HasTables text tables → ⊥

abbrev pub HasNoRefusal : List ℕ → Type 0
HasNoRefusal text = (line column : ℕ) (kind : ModuleKind) → IsRefused text (faults.At line column kind) → ⊥
