-- The laws of modules.
use Rattle.std.specs.Prelude.{◌≡◌, ◌⊎◌, ℕ, false, List, Ok}
use Rattle.operation_notation.specs.declared.module.ModuleText.{ModuleText}
use Rattle.operation_notation.specs.Modules.{module_of}
use Rattle.stub_tables.specs.declared.tables.Tables.{Tables}
use Rattle.module_reading.specs.declared.fault.ModuleKind.{ModuleKind}
use Rattle.module_reading.specs.declared.fault.ModuleFault.TheVariants as faults
use Rattle.module_reading.specs.Modules.{is_table_file, HasTables, IsRefused, IsFaultless}

-- Octets have one list of tables.
abbrev pub OneTables : Type 0
OneTables = (octets : List ℕ) (first second : Tables) → HasTables octets first → HasTables octets second → first ≡ second

-- Octets that have tables have no fault.
abbrev pub TablesOrFault : Type 0
TablesOrFault = (octets : List ℕ) (tables : Tables) (line column : ℕ) (kind : ModuleKind) → HasTables octets tables → IsRefused octets (faults.At line column kind) → ⊥

-- Octets are refused for one fault, at one place.
abbrev pub OneFault : Type 0
OneFault =
    (octets : List ℕ) (line column other_line other_column : ℕ) (kind other_kind : ModuleKind)
    → IsRefused octets (faults.At line column kind) → IsRefused octets (faults.At other_line other_column other_kind)
    → faults.At line column kind ≡ faults.At other_line other_column other_kind

-- Octets that have tables are without a fault.
abbrev pub TablesAreFaultless : Type 0
TablesAreFaultless = (octets : List ℕ) (tables : Tables) → HasTables octets tables → IsFaultless octets

-- Octets without a fault are never refused for one.
abbrev pub FaultlessAreTaken : Type 0
FaultlessAreTaken = (octets : List ℕ) (line column : ℕ) (kind : ModuleKind) → IsFaultless octets → IsRefused octets (faults.At line column kind) → ⊥

-- A text without a fault has tables.
abbrev pub FaultlessTextsHaveTables : Type 0
FaultlessTextsHaveTables = (text : List ℕ) → is_table_file text ≡ false → IsFaultless text → (tables : Tables) × HasTables text tables

-- These octets are refused for some fault.
pub record AreFaulty (octets : List ℕ) : Type 0 where
  pub line : ℕ
  pub column : ℕ
  pub kind : ModuleKind
  pub is : IsRefused octets (faults.At line column kind)

-- A text that reads as a module has tables or a fault: one of the two always.
abbrev pub ModulesHaveEither : Type 0
ModulesHaveEither = (text : List ℕ) (read : ModuleText) → is_table_file text ≡ false → module_of text ≡ Ok read → ((tables : Tables) × HasTables text tables) ⊎ AreFaulty text
