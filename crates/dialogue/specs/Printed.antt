-- What faults print as.
use Rattle.std.specs.Prelude.{ℕ, ℤ, pos, List, Option, Some, None, codes}
use Rattle.osi_base.specs.Printed.{no_memory_text, numbered_text}
use Rattle.dialogue.specs.declared.call.CallRefusal.{CallRefusal}
use Rattle.dialogue.specs.declared.call.CallRefusal.TheVariants as refusals
use Rattle.dialogue.specs.declared.config.ConfigRefusal.{ConfigRefusal}
use Rattle.dialogue.specs.declared.config.ConfigRefusal.TheVariants as configs

-- its name, as a transcript tells it
abbrev pub call_refusal_word : CallRefusal → List ℕ
call_refusal_word refusals.Dead = codes "Dead"
call_refusal_word refusals.NotInitiator = codes "NotInitiator"
call_refusal_word (refusals.WrongPhase number) = codes "WrongPhase"
call_refusal_word refusals.NotNegotiated = codes "NotNegotiated"
call_refusal_word refusals.Waiting = codes "Waiting"
call_refusal_word refusals.UnknownOperation = codes "UnknownOperation"
call_refusal_word (refusals.Absent number) = codes "Absent"
call_refusal_word refusals.AlterPending = codes "AlterPending"
call_refusal_word (refusals.ParentClosed number) = codes "ParentClosed"
call_refusal_word (refusals.LinkNotAllowed number) = codes "LinkNotAllowed"
call_refusal_word refusals.NotTyped = codes "NotTyped"
call_refusal_word refusals.TooLong = codes "TooLong"
call_refusal_word refusals.TooManyOpen = codes "TooManyOpen"
call_refusal_word refusals.NumbersSpent = codes "NumbersSpent"
call_refusal_word refusals.QueueFull = codes "QueueFull"
call_refusal_word (refusals.NoInvocation number) = codes "NoInvocation"
call_refusal_word refusals.NotAllowed = codes "NotAllowed"
call_refusal_word refusals.NoContext = codes "NoContext"
call_refusal_word refusals.UnknownError = codes "UnknownError"
call_refusal_word refusals.NoTurn = codes "NoTurn"
call_refusal_word (refusals.Ending number) = codes "Ending"
call_refusal_word refusals.BadProposal = codes "BadProposal"
call_refusal_word (refusals.WrongParity number) = codes "WrongParity"
call_refusal_word (refusals.Named number) = codes "Named"
call_refusal_word (refusals.Present number) = codes "Present"
call_refusal_word (refusals.Fixed number) = codes "Fixed"
call_refusal_word (refusals.InUse number) = codes "InUse"
call_refusal_word refusals.SetFull = codes "SetFull"
call_refusal_word refusals.MarksFull = codes "MarksFull"
call_refusal_word (refusals.ActivityOpen number) = codes "ActivityOpen"
call_refusal_word refusals.HasTurn = codes "HasTurn"
call_refusal_word (refusals.NoSuchMark number) = codes "NoSuchMark"
call_refusal_word refusals.NoActivity = codes "NoActivity"
call_refusal_word refusals.NotSuspended = codes "NotSuspended"
call_refusal_word (refusals.QueueWaiting number) = codes "QueueWaiting"
call_refusal_word (refusals.OpenInvocations number) = codes "OpenInvocations"
call_refusal_word refusals.NoMemory = codes "NoMemory"

-- the number that it carries, where a transcript tells one
abbrev pub call_refusal_number : CallRefusal → Option ℤ
call_refusal_number (refusals.Absent number) = Some (pos number)
call_refusal_number (refusals.ParentClosed number) = Some number
call_refusal_number (refusals.LinkNotAllowed number) = Some number
call_refusal_number (refusals.NoInvocation number) = Some number
call_refusal_number (refusals.Ending number) = Some (pos number)
call_refusal_number (refusals.WrongParity number) = Some (pos number)
call_refusal_number (refusals.Named number) = Some (pos number)
call_refusal_number (refusals.Present number) = Some (pos number)
call_refusal_number (refusals.Fixed number) = Some (pos number)
call_refusal_number (refusals.InUse number) = Some (pos number)
call_refusal_number (refusals.ActivityOpen number) = Some (pos number)
call_refusal_number (refusals.NoSuchMark number) = Some (pos number)
call_refusal_number (refusals.QueueWaiting number) = Some (pos number)
call_refusal_number (refusals.OpenInvocations number) = Some (pos number)
call_refusal_number _ = None

abbrev pub call_refusal_text : CallRefusal → List ℕ
call_refusal_text refusal = numbered_text (call_refusal_word refusal) (call_refusal_number refusal)

abbrev pub config_refusal_text : ConfigRefusal → List ℕ
config_refusal_text (configs.BadContext id) = numbered_text (codes "may not be proposed: context") (Some (pos id))
config_refusal_text configs.TooManyContexts = codes "more than 62 contexts are proposed"
config_refusal_text configs.BadSelector = codes "a selector does not have 1 to 16 octets"
config_refusal_text configs.BadReference = codes "the reference does not have 1 to 64 octets, or the common one 13"
config_refusal_text configs.BadWindow = codes "the checkpoint is above 255, or the window is not from 1 to 255"
config_refusal_text configs.TooLong = codes "a CP would have more than 10,240 octets"
config_refusal_text configs.NoMemory = no_memory_text
