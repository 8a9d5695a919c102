use Rattle.std.proofs.Common.{◌≡◌, drop}
use Rattle.value_text.specs.Printed.{item_name}
use Rattle.value_text.proofs.print.put_item_name.Given as goal

abbrev pub invariant-loop-item : goal.invariant-loop-item
invariant-loop-item l = record {
  same : l.text ≡ l.initial.text;
  rest : item_name l.items l.number ≡ item_name (drop l.item-index l.items) l.number;
}
