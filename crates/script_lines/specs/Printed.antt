-- What faults print as.
use Rattle.std.specs.Prelude.{ℕ, List, ◌++◌, codes, decimal}
use Rattle.osi_base.specs.Printed.{no_memory_text}
use Rattle.script_lines.specs.declared.fault.ScriptKind.{ScriptKind}
use Rattle.script_lines.specs.declared.fault.ScriptKind.TheVariants as kinds
use Rattle.script_lines.specs.declared.line_fault.ScriptLineFault.{ScriptLineFault}
use Rattle.script_lines.specs.declared.line_fault.ScriptLineFault.TheVariants as lines
use Rattle.script_lines.specs.declared.fault.ScriptFault.{ScriptFault}
use Rattle.script_lines.specs.declared.fault.ScriptFault.TheVariants as faults

-- the name of a kind of fault
abbrev pub script_kind_word : ScriptKind → List ℕ
script_kind_word kinds.UnknownWord = codes "UnknownWord"
script_kind_word kinds.BadNumber = codes "BadNumber"
script_kind_word kinds.BadValue = codes "BadValue"
script_kind_word kinds.BadName = codes "BadName"
script_kind_word kinds.BadField = codes "BadField"
script_kind_word kinds.TooMany = codes "TooMany"
script_kind_word kinds.OutOfOrder = codes "OutOfOrder"
script_kind_word kinds.BadSetup = codes "BadSetup"

abbrev pub line_fault_text : ScriptLineFault → List ℕ
line_fault_text (lines.Kind kind) = script_kind_word kind
line_fault_text lines.NoMemory = no_memory_text

-- what the program tells of it
abbrev pub script_fault_text : ScriptFault → List ℕ
script_fault_text (faults.At line kind) = codes "script refused " ++ (decimal line ++ (codes " " ++ script_kind_word kind))
script_fault_text faults.NoMemory = no_memory_text
