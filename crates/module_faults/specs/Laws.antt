-- The laws of faults.
use Rattle.std.specs.Prelude.{◌≡◌, List, Option}
use Rattle.operation_notation.specs.declared.module.Assignment.{Assignment}
use Rattle.module_faults.specs.declared.least.Found.{Found}
use Rattle.module_faults.specs.Faults.{IsLeastFault}

-- A module has one least fault, or none: never both, and never two.
abbrev pub OneLeastFault : Type 0
OneLeastFault = (all : List Assignment) (one another : Option Found) → IsLeastFault all one → IsLeastFault all another → one ≡ another
