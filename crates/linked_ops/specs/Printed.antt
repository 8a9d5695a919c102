-- What faults print as.
use Rattle.std.specs.Prelude.{ℕ, Bool, true, false, List, Some, codes}
use Rattle.osi_base.specs.Printed.{no_memory_text, numbered_text}
use Rattle.linked_ops.specs.declared.key.ForestRefusal.{ForestRefusal}
use Rattle.linked_ops.specs.declared.key.ForestRefusal.TheVariants as refusals

abbrev pub open_word : Bool → List ℕ
open_word true = codes "open already: own invocation"
open_word false = codes "open already: invocation of the peer"

abbrev pub closed_word : Bool → List ℕ
closed_word true = codes "not open: own invocation"
closed_word false = codes "not open: invocation of the peer"

abbrev pub forest_refusal_text : ForestRefusal → List ℕ
forest_refusal_text (refusals.Present key) = numbered_text (open_word key.own) (Some key.id)
forest_refusal_text (refusals.ParentAbsent key) = numbered_text (closed_word key.own) (Some key.id)
forest_refusal_text refusals.NoMemory = no_memory_text
