-- What octets are as a module: a text of the notation, or a table file.
use Rattle.std.specs.Prelude.{◌≡◌, ◌⊎◌, ℕ, ◌==◌, Bool, true, false, ◌&&◌, List, ◌∷◌, Ok, Err}
use Rattle.notation_tokens.specs.declared.faults.NotationFault.TheVariants as notation
use Rattle.operation_notation.specs.declared.module.ModuleText.{ModuleText}
use Rattle.operation_notation.specs.Modules.{module_of}
use Rattle.stub_tables.specs.declared.tables.Tables.{Tables}
use Rattle.table_file.specs.declared.fault.LoadFault.TheVariants as file
use Rattle.table_file.specs.Contents.{Contents, contents_of}
use Rattle.table_file.specs.Loading.{load_of}
use Rattle.module_compiler.specs.Tables.{AreTablesOf}
use Rattle.module_compiler.specs.Refusals.{HasFault, HasNoFault}
use Rattle.module_reading.specs.declared.fault.ModuleKind.TheVariants as kinds
use Rattle.module_reading.specs.declared.fault.ModuleFault.{ModuleFault}
use Rattle.module_reading.specs.declared.fault.ModuleFault.TheVariants as faults

-- a table file begins with `OTAB`
abbrev pub is_table_file : List ℕ → Bool
is_table_file (a ∷ b ∷ c ∷ d ∷ more) = ((a == 79) && (b == 84)) && ((c == 65) && (d == 66))
is_table_file bytes = false

-- ---- texts

-- the text reads as a module, which has these tables
pub record TextHasTables (text : List ℕ) (tables : Tables) : Type 0 where
  pub read : ModuleText
  pub reads : module_of text ≡ Ok read
  pub has : AreTablesOf read tables

-- ---- both

-- Octets that begin as a table file have the tables that are loaded; others are a text.
abbrev pub HasTables : List ℕ → Tables → Type 0
HasTables bytes tables = ((is_table_file bytes ≡ true) × (load_of bytes ≡ Ok (contents_of tables))) ⊎ ((is_table_file bytes ≡ false) × TextHasTables bytes tables)

-- the least fault of a module that reads
abbrev pub IsTableRefusal : ModuleText → ModuleFault → Type 0
IsTableRefusal m (faults.At line column (kinds.Notation kind)) = ⊥
IsTableRefusal m (faults.At line column (kinds.Table kind)) = HasFault m line column kind
IsTableRefusal m (faults.At line column (kinds.File kind)) = ⊥
IsTableRefusal m faults.NoMemory = Unit {0}

-- The first fault of a text that is no module; or the text reads as a module, and this is its least fault; or the first fault of a
-- table file, whose line is 0 and whose column is the place.
abbrev pub IsRefused : List ℕ → ModuleFault → Type 0
IsRefused bytes (faults.At line column (kinds.Notation kind)) = (is_table_file bytes ≡ false) × (module_of bytes ≡ Err (notation.At line column kind))
IsRefused bytes (faults.At line column (kinds.Table kind)) = (is_table_file bytes ≡ false) × (read : ModuleText) × (module_of bytes ≡ Ok read) × HasFault read line column kind
IsRefused bytes (faults.At line column (kinds.File kind)) = (is_table_file bytes ≡ true) × (line ≡ 0) × (load_of bytes ≡ Err (file.At column kind))
IsRefused bytes faults.NoMemory = Unit {0}

-- Octets without a fault: a table file that loads, or a text that reads as a module without a fault.
abbrev pub IsFaultless : List ℕ → Type 0
IsFaultless bytes =
    ((is_table_file bytes ≡ true) × ((contents : Contents) × (load_of bytes ≡ Ok contents)))
    ⊎ ((is_table_file bytes ≡ false) × ((read : ModuleText) × (module_of bytes ≡ Ok read) × HasNoFault read))
