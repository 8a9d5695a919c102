-- What faults print as.
use Rattle.std.specs.Prelude.{ℕ, pos, List, Some, codes}
use Rattle.osi_base.specs.Printed.{no_memory_text, numbered_text}
use Rattle.session_subset.specs.declared.fault.SessionRefusal.{SessionRefusal}
use Rattle.session_subset.specs.declared.fault.SessionRefusal.TheVariants as refusals
use Rattle.session_subset.specs.declared.fault.SessionFault.{SessionFault}
use Rattle.session_subset.specs.declared.fault.SessionFault.TheVariants as faults

-- its name, and the number that it carries
abbrev pub session_refusal_text : SessionRefusal → List ℕ
session_refusal_text refusals.NotNegotiated = codes "NotNegotiated"
session_refusal_text refusals.Waiting = codes "Waiting"
session_refusal_text refusals.NoTurn = codes "NoTurn"
session_refusal_text refusals.HasTurn = codes "HasTurn"
session_refusal_text (refusals.ActivityOpen number) = numbered_text (codes "ActivityOpen") (Some (pos number))
session_refusal_text refusals.NoActivity = codes "NoActivity"
session_refusal_text (refusals.Ending number) = numbered_text (codes "Ending") (Some (pos number))
session_refusal_text refusals.NotSuspended = codes "NotSuspended"
session_refusal_text refusals.NoMemory = codes "NoMemory"

abbrev pub session_fault_text : SessionFault → List ℕ
session_fault_text faults.OutOfPlace = codes "the unit may not come now"
session_fault_text faults.NoMemory = no_memory_text
