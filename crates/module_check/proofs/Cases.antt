-- What is written in each case.
use Rattle.std.proofs.Common.{◌≡◌, ℕ, Bool, List}
use Rattle.stub_tables.specs.declared.tables.Tables.{Tables}
use Rattle.module_reading.specs.declared.fault.ModuleKind.{ModuleKind}
use Rattle.module_reading.specs.declared.fault.ModuleFault.TheVariants as faults
use Rattle.module_reading.specs.Modules.{HasTables, IsRefused}
use Rattle.module_check.specs.declared.checking.Checked.TheVariants.{Shown, Refused}
use Rattle.module_check.specs.Checking.{shown, refused_text, IsChecked}

pub is_shown : (table : Bool) (bytes text : List ℕ) (tables : Tables) → HasTables bytes tables → text ≡ shown table tables → IsChecked table bytes (Shown text)
is_shown table bytes text tables h e = record { tables = tables; has = h; is = e }

pub is_told : (table : Bool) (bytes text : List ℕ) (line column : ℕ) (kind : ModuleKind) → IsRefused bytes (faults.At line column kind) → text ≡ refused_text line column kind → IsChecked table bytes (Refused text)
is_told table bytes text line column kind h e = record { line = line; column = column; kind = kind; refused = h; is = e }
