use Rattle.std.proofs.Common.{◌≡◌, ◌++◌, take}
use Rattle.std.specs.List.{flat_map}
use Rattle.value_text.specs.Values.{after_space}
use Rattle.value_text.proofs.value.put_more_arcs.Given as goal

abbrev pub invariant-loop-arc : goal.invariant-loop-arc
invariant-loop-arc l = l.text ≡ l.initial.text ++ flat_map after_space (take l.arc-index l.arcs)
