-- What faults print as.
use Rattle.std.specs.Prelude.{ℕ, List}
use Rattle.osi_base.specs.Printed.{fault_at_text, kind_word, no_memory_text}
use Rattle.table_file.specs.declared.fault.LoadFault.{LoadFault}
use Rattle.table_file.specs.declared.fault.LoadFault.TheVariants as faults

abbrev pub load_fault_text : LoadFault → List ℕ
load_fault_text (faults.At place kind) = fault_at_text (kind_word kind) place
load_fault_text faults.NoMemory = no_memory_text
