use Rattle.std.proofs.Common.{◌≡◌, take}
use Rattle.osi_base.proofs.list.ListOfCopied.copy.Given as goal

abbrev pub invariant-loop-value : goal.invariant-loop-value
invariant-loop-value g l = l.items.items ≡ take l.value-index l.value-items
