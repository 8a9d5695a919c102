-- The faults of a module, and why one is refused.
use Rattle.std.specs.Prelude.{◌≡◌, ℕ, Bool, [], Some}
use Rattle.std.specs.List.{Contains}
use Rattle.operation_notation.specs.declared.module.ModuleText.{ModuleText}
use Rattle.module_faults.specs.declared.kind.TableKind.{TableKind}
use Rattle.module_faults.specs.declared.least.Found.{Found}
use Rattle.module_faults.specs.Least.{fault}
use Rattle.module_faults.specs.Recursion.{SaysRecursion}
use Rattle.module_faults.specs.Faults.{faults_by, IsLeastFault}
use Rattle.module_compiler.specs.declared.fault.TableFault.{TableFault}
use Rattle.module_compiler.specs.declared.fault.TableFault.TheVariants as faults

-- A module has a fault: it is one of those that its assignments show, where it is told which types reach themselves.
pub record IsFault (m : ModuleText) (found : Found) : Type 0 where
  pub recursive : ℕ → Bool
  pub says : SaysRecursion m.assignments recursive
  pub among : Contains (faults_by m.assignments recursive) found

-- It has no fault of any kind.
pub record HasNoFault (m : ModuleText) : Type 0 where
  pub recursive : ℕ → Bool
  pub says : SaysRecursion m.assignments recursive
  pub none : faults_by m.assignments recursive ≡ []

-- the least fault of a module is of this kind, and at this line and column
abbrev pub HasFault : ModuleText → ℕ → ℕ → TableKind → Type 0
HasFault m line column kind = IsLeastFault m.assignments (Some (fault line column kind))

-- A module is refused with its least fault; or memory was refused.
abbrev pub IsRefusedBy : ModuleText → TableFault → Type 0
IsRefusedBy m (faults.At line column kind) = HasFault m line column kind
IsRefusedBy m faults.NoMemory = Unit {0}
