use Rattle.std.proofs.Common.{◌≡◌, drop}
use Rattle.context_sets.specs.Policy.{chosen}
use Rattle.context_sets.proofs.alteration_answers.chosen.Given as goal

abbrev pub invariant-loop-transfer : goal.invariant-loop-transfer
invariant-loop-transfer l = chosen l.rules l.name (drop l.transfer-index l.transfers) ≡ chosen l.rules l.name l.transfers
