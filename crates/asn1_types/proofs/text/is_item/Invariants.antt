-- the items so far have other numbers
use Rattle.std.proofs.Common.{◌≡◌, drop}
use Rattle.asn1_types.specs.Defaults.{is_item}
use Rattle.asn1_types.proofs.text.is_item.Given as goal

abbrev pub invariant-loop-item : goal.invariant-loop-item
invariant-loop-item l = is_item (drop l.item-index l.items) l.number ≡ is_item l.items l.number
