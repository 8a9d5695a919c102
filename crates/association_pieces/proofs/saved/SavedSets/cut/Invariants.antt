use Rattle.std.proofs.Common.{◌≡◌, length}
use Rattle.association_sets.specs.end_rules.Sets.{below}
use Rattle.association_pieces.proofs.saved.SavedSets.cut.Given as goal

abbrev pub invariant-loop-self : goal.invariant-loop-self
invariant-loop-self l = below l.n l.self ≡ below l.n l.initial.self

abbrev pub decreases-loop-self : goal.decreases-loop-self
decreases-loop-self l = length l.self
