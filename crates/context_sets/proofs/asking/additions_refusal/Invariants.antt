use Rattle.std.proofs.Common.{◌≡◌, drop}
use Rattle.context_sets.specs.Asking.{first_refusal, addition_refusal}
use Rattle.context_sets.proofs.asking.additions_refusal.Given as goal

abbrev pub invariant-loop-proposal : goal.invariant-loop-proposal
invariant-loop-proposal l = first_refusal (addition_refusal l.ground.initiator l.ground.items.now l.ground.own.now) (drop l.proposal-index l.added) ≡ first_refusal (addition_refusal l.ground.initiator l.ground.items.now l.ground.own.now) l.added
