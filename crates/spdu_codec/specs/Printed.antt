-- What faults print as.
use Rattle.std.specs.Prelude.{ℕ, List}
use Rattle.osi_base.specs.Printed.{fault_at_text, kind_word, no_memory_text}
use Rattle.spdu_codec.specs.declared.fault.SFault.{SFault}
use Rattle.spdu_codec.specs.declared.fault.SFault.TheVariants as faults

abbrev pub s_fault_text : SFault → List ℕ
s_fault_text (faults.At place kind) = fault_at_text (kind_word kind) place
s_fault_text faults.NoMemory = no_memory_text
