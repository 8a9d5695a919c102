-- What faults print as.
use Rattle.std.specs.Prelude.{ℕ, List, ◌++◌, codes, decimal}
use Rattle.osi_base.specs.Printed.{no_memory_text}
use Rattle.notation_tokens.specs.declared.faults.NotationKind.{NotationKind}
use Rattle.notation_tokens.specs.declared.faults.NotationKind.TheVariants as kinds
use Rattle.notation_tokens.specs.declared.faults.NotationFault.{NotationFault}
use Rattle.notation_tokens.specs.declared.faults.NotationFault.TheVariants as faults

-- the name of a kind of fault
abbrev pub notation_kind_word : NotationKind → List ℕ
notation_kind_word kinds.BadCharacter = codes "BadCharacter"
notation_kind_word kinds.UnexpectedToken = codes "UnexpectedToken"
notation_kind_word kinds.TextTooLong = codes "TextTooLong"
notation_kind_word kinds.TooManyTokens = codes "TooManyTokens"
notation_kind_word kinds.Unsupported = codes "Unsupported"

-- what the program tells of a fault with this name, at this line and column
abbrev pub refused_text : ℕ → ℕ → List ℕ → List ℕ
refused_text line column word = codes "module refused " ++ (decimal line ++ (codes " " ++ (decimal column ++ (codes " " ++ word))))

abbrev pub notation_fault_text : NotationFault → List ℕ
notation_fault_text (faults.At line column kind) = refused_text line column (notation_kind_word kind)
notation_fault_text faults.NoMemory = no_memory_text
