use Rattle.std.proofs.Common.{ℕ, List, ◌≤◌, length, drop}
use Rattle.context_restore.specs.Chain.{IsLinked, IsCut}
use Rattle.context_restore.proofs.chain.drop_newest.Given as goal

abbrev pub invariant-loop-place : goal.invariant-loop-place
invariant-loop-place l = (keys : List ℕ) → IsLinked l.initial.nodes l.fn.head keys → l.fn.count ≤ length keys → IsCut l.initial.nodes l.nodes l.at (drop l.place keys) l.place
