-- What faults print as.
use Rattle.std.specs.Prelude.{ℕ, List, codes}
use Rattle.osi_base.specs.Printed.{fault_at_text, kind_word, no_memory_text}
use Rattle.ber_spelling.specs.declared.fault.ReadFault.{ReadFault}
use Rattle.ber_spelling.specs.declared.fault.ReadFault.TheVariants as faults

abbrev pub read_fault_text : ReadFault → List ℕ
read_fault_text (faults.NotSpelled place kind) = fault_at_text (kind_word kind) place
read_fault_text faults.Short = codes "the octets end too early"
read_fault_text (faults.TooDeep place) = fault_at_text (codes "nested more than 32 deep") place
read_fault_text (faults.TooLong place) = fault_at_text (codes "too long") place
read_fault_text faults.NoMemory = no_memory_text
