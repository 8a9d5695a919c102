-- What faults print as.
use Rattle.std.specs.Prelude.{ℕ, pos, List, Some, codes}
use Rattle.osi_base.specs.Printed.{numbered_text}
use Rattle.context_restore.specs.declared.refusal.SaveRefusal.{SaveRefusal}
use Rattle.context_restore.specs.declared.refusal.SaveRefusal.TheVariants as refusals

-- its name, and the number that it carries
abbrev pub save_refusal_text : SaveRefusal → List ℕ
save_refusal_text (refusals.NoSuchMark number) = numbered_text (codes "NoSuchMark") (Some (pos number))
save_refusal_text refusals.MarksFull = codes "MarksFull"
save_refusal_text refusals.NoActivity = codes "NoActivity"
save_refusal_text refusals.NoMemory = codes "NoMemory"
