-- What faults print as.
use Rattle.std.specs.Prelude.{ℕ, List}
use Rattle.osi_base.specs.Printed.{no_memory_text}
use Rattle.notation_tokens.specs.Printed.{refused_text}
use Rattle.module_compiler.specs.declared.fault.TableFault.{TableFault}
use Rattle.module_compiler.specs.declared.fault.TableFault.TheVariants as faults
use Rattle.module_faults.specs.Printed.{table_kind_word}

-- what the program tells of it
abbrev pub table_fault_text : TableFault → List ℕ
table_fault_text (faults.At line column kind) = refused_text line column (table_kind_word kind)
table_fault_text faults.NoMemory = no_memory_text
