-- What faults print as.
use Rattle.std.specs.Prelude.{ℕ, List, ◌++◌, codes, decimal}
use Rattle.osi_base.specs.Printed.{layer_word}
use Rattle.association_words.specs.declared.faults.Fault.{Fault}

-- its layer, its place and its reason, as a transcript tells them of an abort
abbrev pub fault_text : Fault → List ℕ
fault_text fault = layer_word fault.layer ++ (codes " " ++ (decimal fault.place ++ (codes " " ++ decimal fault.reason)))
