-- What faults print as.
use Rattle.std.specs.Prelude.{ℕ, List, ◌++◌, codes, decimal}
use Rattle.osi_base.specs.Printed.{no_memory_text}
use Rattle.rtse.specs.declared.fault.RtseFault.{RtseFault}
use Rattle.rtse.specs.declared.fault.RtseFault.TheVariants as faults

abbrev pub rtse_fault_text : RtseFault → List ℕ
rtse_fault_text (faults.WrongNumber had came) = codes "number " ++ (decimal came ++ (codes " after " ++ decimal had))
rtse_fault_text faults.TooLong = codes "more than 262,400 octets"
rtse_fault_text faults.NoMemory = no_memory_text
