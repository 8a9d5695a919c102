use Rattle.std.proofs.Common.{◌≡◌, ◌++◌, map, take}
use Rattle.end_rules.specs.State.{OpenCall}
use Rattle.association_calls.proofs.in_use.push_calls.Given as goal

abbrev pub invariant-loop-open : goal.invariant-loop-open
invariant-loop-open l = l.ids ≡ l.fn.ids ++ map (λ (o : OpenCall). o.context) (take l.open-index l.opens.items)
