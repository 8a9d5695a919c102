-- What faults print as.
use Rattle.std.specs.Prelude.{ℕ, ℤ, pos, List, Option, Some, None, ◌++◌, codes, decimal}
use Rattle.osi_base.specs.Printed.{no_memory_text, numbered_text}
use Rattle.context_sets.specs.declared.fault.SetRefusal.{SetRefusal}
use Rattle.context_sets.specs.declared.fault.SetRefusal.TheVariants as refusals
use Rattle.context_sets.specs.declared.fault.SetFault.{SetFault}
use Rattle.context_sets.specs.declared.fault.SetFault.TheVariants as faults
use Rattle.context_sets.specs.declared.rules.Rejection.{Rejection}
use Rattle.context_sets.specs.declared.rules.Rejection.TheVariants as rejections

-- its name, as a transcript tells it
abbrev pub set_refusal_word : SetRefusal → List ℕ
set_refusal_word refusals.AlterPending = codes "AlterPending"
set_refusal_word refusals.BadProposal = codes "BadProposal"
set_refusal_word (refusals.WrongParity number) = codes "WrongParity"
set_refusal_word (refusals.Named number) = codes "Named"
set_refusal_word (refusals.Present number) = codes "Present"
set_refusal_word (refusals.Absent number) = codes "Absent"
set_refusal_word (refusals.Fixed number) = codes "Fixed"
set_refusal_word (refusals.InUse number) = codes "InUse"
set_refusal_word refusals.SetFull = codes "SetFull"
set_refusal_word refusals.NoMemory = codes "NoMemory"

-- the number that it carries, where a transcript tells one
abbrev pub set_refusal_number : SetRefusal → Option ℤ
set_refusal_number (refusals.WrongParity number) = Some (pos number)
set_refusal_number (refusals.Named number) = Some (pos number)
set_refusal_number (refusals.Present number) = Some (pos number)
set_refusal_number (refusals.Absent number) = Some (pos number)
set_refusal_number (refusals.Fixed number) = Some (pos number)
set_refusal_number (refusals.InUse number) = Some (pos number)
set_refusal_number _ = None

abbrev pub set_refusal_text : SetRefusal → List ℕ
set_refusal_text refusal = numbered_text (set_refusal_word refusal) (set_refusal_number refusal)

abbrev pub set_fault_text : SetFault → List ℕ
set_fault_text (faults.PeerPresent id) = numbered_text (codes "already there: context") (Some (pos id))
set_fault_text (faults.PeerParity id) = numbered_text (codes "wrong parity: context") (Some (pos id))
set_fault_text (faults.Mismatch sent answered) = decimal answered ++ (codes " results do not answer " ++ decimal sent)
set_fault_text faults.NoMemory = no_memory_text

abbrev pub rejection_text : Rejection → List ℕ
rejection_text rejections.AbstractSyntax = codes "the abstract syntax is not one that the end takes"
rejection_text rejections.TransferSyntaxes = codes "none of the transfer syntaxes is accepted"
rejection_text rejections.LocalLimit = codes "the set has no place for another context"
