-- What faults print as.
use Rattle.std.specs.Prelude.{ℕ, List}
use Rattle.osi_base.specs.Printed.{fault_at_text, kind_word, no_memory_text}
use Rattle.presentation_pdus.specs.declared.place.PpduFault.{PpduFault}
use Rattle.presentation_pdus.specs.declared.place.PpduFault.TheVariants as faults

abbrev pub ppdu_fault_text : PpduFault → List ℕ
ppdu_fault_text (faults.At place kind reason) = fault_at_text (kind_word kind) place
ppdu_fault_text faults.NoMemory = no_memory_text
