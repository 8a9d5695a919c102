-- The names of the kinds of fault in a module.
use Rattle.std.specs.Prelude.{ℕ, List}
use Rattle.osi_base.specs.Printed.{kind_word}
use Rattle.notation_tokens.specs.Printed.{notation_kind_word}
use Rattle.module_faults.specs.Printed.{table_kind_word}
use Rattle.module_reading.specs.declared.fault.ModuleKind.{ModuleKind}
use Rattle.module_reading.specs.declared.fault.ModuleKind.TheVariants as kinds

abbrev pub module_kind_word : ModuleKind → List ℕ
module_kind_word (kinds.Notation kind) = notation_kind_word kind
module_kind_word (kinds.Table kind) = table_kind_word kind
module_kind_word (kinds.File kind) = kind_word kind
