-- What faults print as.
use Rattle.std.specs.Prelude.{ℕ, List, codes}
use Rattle.osi_base.specs.Printed.{fault_at_text, kind_word, no_memory_text}
use Rattle.packed_codec.specs.declared.fault.PackedFault.{PackedFault}
use Rattle.packed_codec.specs.declared.fault.PackedFault.TheVariants as faults

abbrev pub packed_fault_text : PackedFault → List ℕ
packed_fault_text (faults.NotSpelled place kind) = fault_at_text (kind_word kind) place
packed_fault_text faults.Short = codes "the octets end too early"
packed_fault_text (faults.TooLong place) = fault_at_text (codes "too long") place
packed_fault_text faults.NoMemory = no_memory_text
