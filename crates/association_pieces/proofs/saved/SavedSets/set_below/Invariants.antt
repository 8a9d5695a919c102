use Rattle.std.proofs.Common.{◌≡◌, drop}
use Rattle.association_sets.specs.end_rules.Sets.{below, newest}
use Rattle.association_pieces.proofs.saved.SavedSets.set_below.Given as goal

abbrev pub invariant-loop-place : goal.invariant-loop-place
invariant-loop-place l = newest (below l.n (drop l.place l.self-inside.marks)) ≡ newest (below l.n l.self-inside.marks)
