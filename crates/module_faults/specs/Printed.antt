-- What faults print as.
use Rattle.std.specs.Prelude.{ℕ, List, codes}
use Rattle.module_faults.specs.declared.kind.TableKind.{TableKind}
use Rattle.module_faults.specs.declared.kind.TableKind.TheVariants as kinds

-- the name of a kind of fault
abbrev pub table_kind_word : TableKind → List ℕ
table_kind_word kinds.UnknownName = codes "UnknownName"
table_kind_word kinds.DoubleName = codes "DoubleName"
table_kind_word kinds.DoubleCode = codes "DoubleCode"
table_kind_word kinds.NoCode = codes "NoCode"
table_kind_word kinds.Recursive = codes "Recursive"
table_kind_word kinds.TooNested = codes "TooNested"
table_kind_word kinds.TagsNotDistinct = codes "TagsNotDistinct"
table_kind_word kinds.NotOperation = codes "NotOperation"
table_kind_word kinds.NotError = codes "NotError"
table_kind_word kinds.BadRange = codes "BadRange"
table_kind_word kinds.Contradiction = codes "Contradiction"
table_kind_word kinds.BadDefault = codes "BadDefault"
