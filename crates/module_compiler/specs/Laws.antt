-- The laws of modules that read.
use Rattle.std.specs.Prelude.{◌≡◌, ◌⊎◌, ℕ, ◌<◌, ◌^◌, false, length}
use Rattle.asn1_types.specs.Table.{AreSoundRows}
use Rattle.operation_notation.specs.WellFormed.{IsWellFormed}
use Rattle.operation_notation.specs.declared.module.ModuleText.{ModuleText}
use Rattle.module_faults.specs.declared.kind.TableKind.{TableKind}
use Rattle.module_faults.specs.declared.least.Found.{Found}
use Rattle.module_faults.specs.Least.{fault, is_before}
use Rattle.stub_tables.specs.declared.tables.Tables.{Tables}
use Rattle.module_compiler.specs.Tables.{AreTablesOf}
use Rattle.module_compiler.specs.Refusals.{IsFault, HasNoFault, HasFault}

-- A well-formed module without a fault has tables.
abbrev pub FaultlessHaveTables : Type 0
FaultlessHaveTables = (m : ModuleText) → IsWellFormed m → length m.assignments < 2 ^ 32 → HasNoFault m → (tables : Tables) × AreTablesOf m tables

-- The rows of a well-formed module without a fault are sound: a table takes each of them behind those before it.
abbrev pub FaultlessRowsAreSound : Type 0
FaultlessRowsAreSound = (m : ModuleText) (tables : Tables) → IsWellFormed m → AreTablesOf m tables → AreSoundRows tables.types

-- This is one of the module's faults, and none of them comes before it.
pub record IsLeast (m : ModuleText) (found : Found) : Type 0 where
  pub is : IsFault m found
  pub first : (other : Found) → IsFault m other → is_before other found ≡ false

-- A module is refused for its least fault.
abbrev pub RefusedAreLeast : Type 0
RefusedAreLeast = (m : ModuleText) (line column : ℕ) (kind : TableKind) → HasFault m line column kind → IsLeast m (fault line column kind)

-- Some fault is the module's least.
pub record HasLeastFault (m : ModuleText) : Type 0 where
  pub line : ℕ
  pub column : ℕ
  pub kind : TableKind
  pub is : HasFault m line column kind

-- A module has a least fault or none: one of the two always.
abbrev pub FaultOrNone : Type 0
FaultOrNone = (m : ModuleText) → HasNoFault m ⊎ HasLeastFault m

-- A module without a fault has none of them: never both.
abbrev pub NeverBoth : Type 0
NeverBoth = (m : ModuleText) (found : Found) → HasNoFault m → IsFault m found → ⊥
