-- What faults print as.
use Rattle.std.specs.Prelude.{ℕ, pos, List, Some, codes}
use Rattle.osi_base.specs.Printed.{no_memory_text, numbered_text}
use Rattle.apdu_codec.specs.declared.fault.HeadFault.{HeadFault}
use Rattle.apdu_codec.specs.declared.fault.HeadFault.TheVariants as faults

abbrev pub head_fault_text : HeadFault → List ℕ
head_fault_text (faults.General problem) = numbered_text (codes "general") (Some (pos problem))
head_fault_text faults.BadReject = codes "bad reject"
head_fault_text faults.NoMemory = no_memory_text
