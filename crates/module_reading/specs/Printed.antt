-- What faults print as.
use Rattle.std.specs.Prelude.{ℕ, List}
use Rattle.osi_base.specs.Printed.{no_memory_text}
use Rattle.notation_tokens.specs.Printed.{refused_text}
use Rattle.module_reading.specs.declared.fault.ModuleFault.{ModuleFault}
use Rattle.module_reading.specs.declared.fault.ModuleFault.TheVariants as faults
use Rattle.module_reading.specs.Words.{module_kind_word}

-- what the program tells of it
abbrev pub module_fault_text : ModuleFault → List ℕ
module_fault_text (faults.At line column kind) = refused_text line column (module_kind_word kind)
module_fault_text faults.NoMemory = no_memory_text
