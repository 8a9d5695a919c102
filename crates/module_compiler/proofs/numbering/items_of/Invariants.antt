use Rattle.std.proofs.Common.{◌≡◌, map, take}
use Rattle.module_compiler.specs.Numbering.{item_of}
use Rattle.module_compiler.proofs.numbering.items_of.Given as goal

abbrev pub invariant-loop-item : goal.invariant-loop-item
invariant-loop-item l = l.named ≡ map item_of (take l.item-index l.items)
