use Rattle.std.proofs.Common.{◌≡◌, ◌++◌, map}
use Rattle.linked_ops.specs.Rows.{key_with, entries}
use Rattle.linked_ops.proofs.openings.entries.Given as goal

abbrev pub invariant-loop-opening : goal.invariant-loop-opening
invariant-loop-opening l = l.list.items ++ map (λ o. (o.key, key_with o.parent l.openings.entries)) l.opening-iterator ≡ entries l.openings.entries
