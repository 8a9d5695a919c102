use Rattle.std.proofs.Common.{◌≡◌, drop}
use Rattle.association_intake.specs.association_reading.Association as reading
use Rattle.association_meaning.proofs.association.is_left.Given as goal

abbrev pub invariant-loop-proposal : goal.invariant-loop-proposal
invariant-loop-proposal l = reading.is_left (drop l.proposal-index l.definitions) l.pdv ≡ reading.is_left l.definitions l.pdv
