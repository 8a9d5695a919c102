use Rattle.std.proofs.Common.{◌≡◌, drop}
use Rattle.module_compiler.specs.Numbering.{item_number}
use Rattle.module_compiler.proofs.numbering.item_number.Given as goal

abbrev pub invariant-loop-item : goal.invariant-loop-item
invariant-loop-item l = item_number (drop l.item-index l.items) l.name ≡ item_number l.items l.name
