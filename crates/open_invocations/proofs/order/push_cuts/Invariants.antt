use Rattle.std.proofs.Common.{◌≡◌, ◌++◌, map, take}
use Rattle.rose_roles.specs.end_rules.Faults.{cut_of}
use Rattle.open_invocations.proofs.order.push_cuts.Given as goal

abbrev pub invariant-loop-call : goal.invariant-loop-call
invariant-loop-call l = l.shown ≡ l.fn.shown ++ map cut_of (take l.call-index l.ordered)
