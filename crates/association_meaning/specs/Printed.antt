-- What faults print as.
use Rattle.std.specs.Prelude.{ℕ, List}
use Rattle.osi_base.specs.Printed.{no_memory_text}
use Rattle.association_words.specs.Printed.{fault_text}
use Rattle.association_meaning.specs.declared.basis.Halt.{Halt}
use Rattle.association_meaning.specs.declared.basis.Halt.TheVariants as halts

abbrev pub halt_text : Halt → List ℕ
halt_text (halts.Faulty fault) = fault_text fault
halt_text halts.NoMemory = no_memory_text
