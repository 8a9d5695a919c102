-- Faults of whole protocol data units.
use Rattle.std.specs.Prelude.{ℕ}
use Rattle.osi_base.specs.declared.layer_words.Kind.TheVariants as why
use Rattle.ber_spelling.specs.declared.fault.ReadFault.{ReadFault}
use Rattle.ber_spelling.specs.declared.fault.ReadFault.TheVariants as faults
use Rattle.fixed_tables.specs.declared.pdu.PduFault as units
use Rattle.fixed_tables.specs.declared.pdu.PduFault.TheVariants as unit

-- what a fault of reading is in octets that end here
abbrev pub fault_in : ℕ → ReadFault → units.PduFault
fault_in end (faults.NotSpelled place kind) = unit.At place kind
fault_in end faults.Short = unit.At end why.Missing
fault_in end (faults.TooDeep place) = unit.At place why.Tag
fault_in end (faults.TooLong place) = unit.At place why.Length
fault_in end faults.NoMemory = unit.NoMemory
