-- What faults print as.
use Rattle.std.specs.Prelude.{ℕ, List}
use Rattle.osi_base.specs.Printed.{fault_at_text, kind_word, no_memory_text}
use Rattle.fixed_tables.specs.declared.pdu.PduFault.{PduFault}
use Rattle.fixed_tables.specs.declared.pdu.PduFault.TheVariants as faults

abbrev pub pdu_fault_text : PduFault → List ℕ
pdu_fault_text (faults.At place kind) = fault_at_text (kind_word kind) place
pdu_fault_text faults.NoMemory = no_memory_text
