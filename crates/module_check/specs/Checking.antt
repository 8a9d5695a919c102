-- What a check of a module writes.
use Rattle.std.specs.Prelude.{◌≡◌, ℕ, Bool, List, [], ◌∷◌, ◌++◌, if◌then◌else◌}
use Rattle.stub_tables.specs.declared.tables.Tables.{Tables}
use Rattle.table_file.specs.Files.{table_file_of}
use Rattle.table_listing.specs.Listing.{listing_of}
use Rattle.module_reading.specs.declared.fault.ModuleKind.{ModuleKind}
use Rattle.module_reading.specs.declared.fault.ModuleFault.TheVariants as faults
use Rattle.module_reading.specs.Modules.{HasTables, IsRefused}
use Rattle.module_reading.specs.Printed.{module_fault_text}
use Rattle.module_check.specs.declared.checking.Checked.{Checked}
use Rattle.module_check.specs.declared.checking.Checked.TheVariants.{Shown, Refused}

-- tables as a table file, or as a listing
abbrev pub shown : Bool → Tables → List ℕ
shown table tables = if table then table_file_of tables else listing_of tables

-- the line that says where a module is at fault
abbrev pub refused_text : ℕ → ℕ → ModuleKind → List ℕ
refused_text line column kind = module_fault_text (faults.At line column kind) ++ 10 ∷ []

-- the tables of a module, as they are shown
pub record IsShown (table : Bool) (bytes text : List ℕ) : Type 0 where
  pub tables : Tables
  pub has : HasTables bytes tables
  pub is : text ≡ shown table tables

-- where a module is at fault, as it is told
pub record IsTold (bytes text : List ℕ) : Type 0 where
  pub line : ℕ
  pub column : ℕ
  pub kind : ModuleKind
  pub refused : IsRefused bytes (faults.At line column kind)
  pub is : text ≡ refused_text line column kind

-- What is written of the octets of a module.
abbrev pub IsChecked : Bool → List ℕ → Checked → Type 0
IsChecked table bytes (Shown text) = IsShown table bytes text
IsChecked table bytes (Refused text) = IsTold bytes text
