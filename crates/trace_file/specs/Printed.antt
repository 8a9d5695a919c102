-- What faults print as.
use Rattle.std.specs.Prelude.{ℕ, List, ◌++◌, codes, decimal}
use Rattle.osi_base.specs.Printed.{no_memory_text}
use Rattle.trace_file.specs.declared.fault.RecordingKind.{RecordingKind}
use Rattle.trace_file.specs.declared.fault.RecordingKind.TheVariants as kinds
use Rattle.trace_file.specs.declared.fault.RecordingFault.{RecordingFault}
use Rattle.trace_file.specs.declared.fault.RecordingFault.TheVariants as faults

-- the name of a kind of fault
abbrev pub recording_kind_word : RecordingKind → List ℕ
recording_kind_word kinds.BadField = codes "BadField"
recording_kind_word kinds.TooMany = codes "TooMany"

-- what the program tells of it
abbrev pub recording_fault_text : RecordingFault → List ℕ
recording_fault_text (faults.At line kind) = codes "script refused " ++ (decimal line ++ (codes " " ++ recording_kind_word kind))
recording_fault_text faults.NoMemory = no_memory_text
